-- An order that comes to rest as the only one of a new level.
use Rattle.std.proofs.Common.{◌≡◌, ◌≢◌, ℕ, ◌<◌, ◌≤◌, ◌⊎◌, inl, inr, leb, nat_lt, if◌then◌else◌, true, false, [], ◌∷◌, ◌++◌, filter, Option, Some, None, Result, Err, refl, sym, ap, subst, ◌∙◌, append_assoc, arith}
use Rattle.std.proofs.lemmas.Bool.Decides.{nat_tests}
use Rattle.std.specs.{List.AllByRecursion, Ordering.nat_cmp, declared.cmp.Ordering.TheVariants.Less}
use Rattle.chain_base.specs.Chain.{Chain, IsDistinct, last_or, last_pointer}
use Rattle.sorted_arena.specs.Sorted.{Sorted, get}
use Rattle.sorted_arena.specs.ReallocationError.{ReallocationError, TheVariants.BeyondMaxCapacity, TheVariants.AllocError}
use Rattle.sorted_arena.proofs.CallerLemmas.{all-append, all-front, all-both, found-here, IsPutBetween}
use Rattle.sorted_arena.proofs.OrdLemmas.{recursion-map as all-weaker}
use Rattle.order_book.specs.{declared.order.Lot.Lot, declared.ladder.Resting.Resting, declared.ladder.Totals.Totals}
use Rattle.order_book.specs.QueueLayout.{IsLawful}
use Rattle.sorted_arena.specs.PlainArena.{doubled_capacity}
use Rattle.order_book.specs.Queue.{most_entries}
use Rattle.order_book.specs.Ladder.{rows_of, AreLaid, IsLevel, Rise, IsLadder, IsPut, IsBetween, IsCutBehind}
use Rattle.order_book.proofs.Rows.{LevelEntry, OrderEntry, Orders, Levels, distinct-rows, rows-distinct}
use Rattle.order_book.proofs.Laying.{all-at, laid-with, all-laid, laid-cut, LaidCut, CutBy, rise-put, rise-across}
use Rattle.order_book.proofs.Reading.{cut-until, laid-last}
use Rattle.order_book.proofs.Places.{Inserted, distinct-inserted, EndCut, end-cut, no-end}
use Rattle.order_book.proofs.Joining.{is_put, lawful-put}

not-less : (r s : ℕ) → nat_cmp r s ≢ Less → r ≢ s → s < r
not-less r s least apart = grind (arith, nat_tests, least, apart)

is-less : (r s : ℕ) → nat_cmp r s ≡ Less → r < s
is-less r s less = grind (arith, nat_tests, less)

module _ {T : Type 0} where
  module _ (orders : Chain (Resting T)) (levels after : Sorted ℕ Totals) (ladder : IsLadder orders levels) (rank : ℕ) (index : Option ℕ) (between : IsBetween rank levels.entries orders.entries index)
      (u : ℕ × ℕ) (totals : Totals) (puts : IsPutBetween nat_cmp most_entries levels u (rank, totals) after) where
    abbrev pub level : LevelEntry
    level = record { index = u.0; generation = u.1; item = (rank, totals) }

    low_less : AllByRecursion (λ (l : LevelEntry). l.item.0 < rank) puts.front
    low_less = all-both (λ (l : LevelEntry). nat_cmp rank l.item.0 ≢ Less) (λ (l : LevelEntry). l.item.0 ≢ rank) (λ (l : LevelEntry). l.item.0 < rank)
        (λ l least apart. not-less rank l.item.0 least (λ same. apart (sym same))) puts.front puts.at_most_before
        (all-front (λ (l : LevelEntry). l.item.0 ≢ rank) puts.front puts.back (subst (λ (ls : Levels). AllByRecursion (λ (l : LevelEntry). l.item.0 ≢ rank) ls) puts.before between.absent))

    pub low_most : AllByRecursion (λ (l : LevelEntry). l.item.0 ≤ rank) puts.front
    low_most = all-weaker (λ (l : LevelEntry). l.item.0 < rank) (λ (l : LevelEntry). l.item.0 ≤ rank) (λ l less. omega (arith, less)) puts.front low_less

    pub high_more : AllByRecursion (λ (l : LevelEntry). rank < l.item.0) puts.back
    high_more = all-weaker (λ (l : LevelEntry). nat_cmp rank l.item.0 ≡ Less) (λ (l : LevelEntry). rank < l.item.0) (λ l less. is-less rank l.item.0 less) puts.back puts.greater_behind

    abbrev pub begun : LaidCut puts.front puts.back orders.entries
    begun = laid-cut puts.front puts.back orders.entries (subst (λ (ls : Levels). AreLaid ls orders.entries) puts.before ladder.laid)

    abbrev pub begun_behind : IsCutBehind orders.entries index
    begun_behind = record {
      front = begun.front;
      back = begun.back;
      cut = begun.cut;
      last = between.last puts.front puts.back begun.front begun.back puts.before begun.cut begun.laid_low low_most high_more;
    }

    module _ (new : Chain (Resting T)) (p : ℕ × ℕ) (lot : Lot T) (is : totals ≡ record { quantity = lot.quantity; count = 1; last = p.0 }) (lawful : IsLawful (rank, lot))
        (grown : levels.capacity ≤ after.capacity) (inserts : Inserted orders new p (record { rank = rank; lot = lot; level = u }) begun.front begun.back) where
      abbrev order : OrderEntry T
      order = record { index = p.0; generation = p.1; item = record { rank = rank; lot = lot; level = u } }

      alone : IsLevel level (order ∷ [])
      alone = record {
        members = (record { rank = refl; level = refl }, tt);
        quantity = ap (λ (t : Totals). t.quantity) is ∙ omega arith;
        count = ap (λ (t : Totals). t.count) is;
        last = ap (λ (t : Totals). Some t.last) (sym is);
      }

      pub begun-ladder : IsLadder new after
      begun-ladder = record {
        laid = subst (λ (ls : Levels). AreLaid ls new.entries) (sym puts.after) (subst (λ (es : Orders T). AreLaid (puts.front ++ level ∷ puts.back) es) (sym inserts.after)
            (laid-with puts.front level puts.back begun.front (order ∷ []) begun.back begun.laid_low alone begun.laid_high));
        rising = subst Rise (sym puts.after) (rise-put puts.front level puts.back (subst Rise puts.before ladder.rising) low_less high_more);
        distinct = distinct-rows new.entries (distinct-inserted orders new p _ _ _ inserts (rows-distinct orders.entries ladder.distinct));
        lawful = lawful-put orders new p _ _ _ inserts ladder.lawful lawful;
        unlimited = inserts.maximum ∙ ladder.unlimited;
        room = omega (arith, inserts.capacity, grown, ladder.room);
      }

      pub begun-put : IsPut (rows_of orders) p rank lot (rows_of new)
      begun-put = is_put orders new p _ _ _ inserts
          (all-laid (λ (s : ℕ). s ≤ rank) puts.front begun.front low_most begun.laid_low)
          (all-laid (λ (s : ℕ). rank < s) puts.back begun.back high_more begun.laid_high)

-- a refusal of room is one of two
pub refused-by : {P X A B : Type 0} (r : Result P (X × ReallocationError)) (x : X) (e : X × ReallocationError) → r ≡ Err e → e.0 ≡ x → (r ≡ Err (x, BeyondMaxCapacity) → A) → (r ≡ Err (x, AllocError) → B) → A ⊎ B
refused-by {A = A} {B = B} r x e is same full memory = go e.1 refl
  where
    go : (why : ReallocationError) → e.1 ≡ why → A ⊎ B
    go BeyondMaxCapacity why = inl (full (is ∙ ap (λ (y : _). Err (y, e.1)) same ∙ ap (λ (w : ReallocationError). Err (x, w)) why))
    go AllocError why = inr (memory (is ∙ ap (λ (y : _). Err (y, e.1)) same ∙ ap (λ (w : ReallocationError). Err (x, w)) why))

module _ {T : Type 0} where
  -- Where a rank has no level: what is known of the levels up to it, by the last of them.
  module _ (orders : Chain (Resting T)) (levels : Sorted ℕ Totals) (ladder : IsLadder orders levels) (rank : ℕ) where
    abbrev pub until : CutBy (λ (r : ℕ). leb r rank) levels.entries
    until = cut-until rank levels.entries ladder.rising

    most-passes : (r : ℕ) → r ≤ rank → leb r rank ≡ true
    most-passes r most = grind (arith, nat_tests, most)

    more-fails : (r : ℕ) → rank < r → leb r rank ≡ false
    more-fails r more = grind (arith, nat_tests, more)

    passes-most : (r : ℕ) → leb r rank ≡ true → r ≤ rank
    passes-most r is = grind (arith, nat_tests, is)

    fails-more : (r : ℕ) → leb r rank ≡ false → rank < r
    fails-more r is = grind (arith, nat_tests, is)

    -- levels cut there are cut so
    same-cut : (low high : Levels) → levels.entries ≡ low ++ high → AllByRecursion (λ (l : LevelEntry). l.item.0 ≤ rank) low → AllByRecursion (λ (l : LevelEntry). rank < l.item.0) high
        → low ≡ until.low
    same-cut low high cut most more = sym (filtered low high most more) ∙ ap (filter (λ (l : LevelEntry). leb l.item.0 rank)) (sym cut) ∙ until.low_is
      where
        none : (high : Levels) → AllByRecursion (λ (l : LevelEntry). rank < l.item.0) high → filter (λ (l : LevelEntry). leb l.item.0 rank) high ≡ []
        none [] all = refl
        none (l ∷ high) all = rw (more-fails l.item.0 all.0) (none high all.1)

        filtered : (low high : Levels) → AllByRecursion (λ (l : LevelEntry). l.item.0 ≤ rank) low → AllByRecursion (λ (l : LevelEntry). rank < l.item.0) high
            → filter (λ (l : LevelEntry). leb l.item.0 rank) (low ++ high) ≡ low
        filtered [] high most more = none high more
        filtered (l ∷ low) high most more = rw (most-passes l.item.0 most.0) (ap (λ (ls : Levels). l ∷ ls) (filtered low high most.1 more))

    above-absent : (ls : Levels) → AllByRecursion (λ (l : LevelEntry). leb l.item.0 rank ≡ false) ls → AllByRecursion (λ (l : LevelEntry). l.item.0 ≢ rank) ls
    above-absent ls all = all-weaker (λ (l : LevelEntry). leb l.item.0 rank ≡ false) (λ (l : LevelEntry). l.item.0 ≢ rank)
        (λ l fails same. absurd (let more = fails-more l.item.0 fails in omega (arith, more, same))) ls all

    -- none is up to the rank
    pub between-none : None ≡ last_pointer (filter (λ (l : LevelEntry). leb l.item.0 rank) levels.entries) → IsBetween rank levels.entries orders.entries None
    between-none last =
        let none : until.low ≡ [] = no-end until.low (last ∙ ap last_pointer until.low_is) in
        let whole : levels.entries ≡ until.high = until.cut ∙ ap (λ (ls : Levels). ls ++ until.high) none in
        record {
          absent = subst (λ (ls : Levels). AllByRecursion (λ (l : LevelEntry). l.item.0 ≢ rank) ls) (sym whole) (above-absent until.high until.failing);
          last = λ low high front back cut orders_cut laid most more.
              ap (last_or None) (subst (λ (ls : Levels). AreLaid ls front) (same-cut low high cut most more ∙ none) laid);
        }

    -- one is the last of those
    module _ (p : ℕ × ℕ) (last : Some p ≡ last_pointer (filter (λ (l : LevelEntry). leb l.item.0 rank) levels.entries)) where
      abbrev pub end : EndCut until.low p
      end = end-cut until.low p (last ∙ ap last_pointer until.low_is)

      end_whole : levels.entries ≡ end.front ++ end.entry ∷ until.high
      end_whole = until.cut ∙ ap (λ (ls : Levels). ls ++ until.high) end.cut ∙ append_assoc end.front (end.entry ∷ []) until.high

      pub end-found : IsDistinct levels.entries → get levels p ≡ Some end.entry.item
      end-found distinct = ap (get levels) end.pointer ∙ found-here levels.entries distinct end.front end.entry until.high end_whole

      pub between-some : (item : ℕ × Totals) → end.entry.item ≡ item → item.0 ≢ rank → IsBetween rank levels.entries orders.entries (Some item.1.last)
      between-some item is other =
          let rise : Rise (end.front ++ end.entry ∷ until.high) = subst Rise end_whole ladder.rising in
          let at_most : end.entry.item.0 ≤ rank = passes-most end.entry.item.0 (all-at (λ (l : LevelEntry). leb l.item.0 rank ≡ true) end.front end.entry []
          (subst (λ (ls : Levels). AllByRecursion (λ (l : LevelEntry). leb l.item.0 rank ≡ true) ls) end.cut until.passing)) in
          let apart : end.entry.item.0 ≢ rank = λ same. other (sym (ap (λ (x : ℕ × Totals). x.0) is) ∙ same) in
          record {
            absent = subst (λ (ls : Levels). AllByRecursion (λ (l : LevelEntry). l.item.0 ≢ rank) ls) (sym end_whole)
                (all-append (λ (l : LevelEntry). l.item.0 ≢ rank) end.front (end.entry ∷ until.high)
                (all-weaker (λ (l : LevelEntry). l.item.0 < end.entry.item.0) (λ (l : LevelEntry). l.item.0 ≢ rank) (λ l less same. absurd (omega (arith, less, same, at_most)))
                end.front (rise-across end.front end.entry until.high rise))
                (apart, above-absent until.high until.failing));
            last = λ low high front back cut orders_cut laid most more.
                laid-last end.front end.entry front (subst (λ (ls : Levels). AreLaid ls front) (same-cut low high cut most more ∙ end.cut) laid)
                ∙ ap (λ (x : ℕ × Totals). Some x.1.last) is;
          }

-- an insertion within the capacity keeps it
pub roomier : (old new count : ℕ) → new ≡ (if nat_lt count old then old else doubled_capacity most_entries old) → count < old → old ≤ new
roomier old new count is room =
    let fits : nat_lt count old ≡ true = grind (arith, nat_tests, room) in
    let same : new ≡ old = rw fits at is in
    omega (arith, same)
