-- Lists whose entries have the indexes from 1 on, and compact chains.
use Rattle.std.proofs.Common.{◌≡◌, ◌≢◌, ℕ, zero, suc, ◌+◌, ◌-◌, ◌<◌, ◌≤◌, ◌==◌, Bool, true, false, if◌then◌else◌, List, [], ◌∷◌, ◌++◌, map, length, length-append, slice_get, take, drop, Some, refl, sym, ap, subst, ◌∙◌, arith, is_some, inl, inr}
use Rattle.std.proofs.{lemmas.Bool.cases_eq, lemmas.Bool.cases_lt, lemmas.Bool.eq-eqb, lemmas.Bool.ne_eqb, Math.Seq.take-append_seam, Math.Seq.drop-append_seam}
use Rattle.std.specs.{List.range_with_len, Option.option_map}
use Rattle.listing.specs.Chain.{Entry, Chain, times, entry_at, without, with_item_among, vacant_among, vacant_indexes, with_capacity, last_pointer, inserted_at, next_index, grown_capacity}
use Rattle.listing.specs.{ChainCompression.numbered, ChainCompression.canonical, Insert.IsInsertion, TreeAppend.Appends, Insertion.with_room_by}
use Rattle.listing.specs.Growth.{Growth, TheVariants.Within, TheVariants.Reallocating}
use Rattle.sorted_arena.specs.{Layout.AreNumbered, Layout.IsCompact, Place.position_of, Stretch.first_index}

module _ {T : Type 0} where
  pub numbered-more : (from : ℕ) (es : List (Entry T)) (e : Entry T) → AreNumbered from es → e.index ≡ from + length es → AreNumbered from (es ++ e ∷ [])
  numbered-more from [] e h is = (omega (arith, is), tt)
  numbered-more from (x ∷ es) e h is = (h.0, numbered-more (from + 1) es e h.1 (omega (arith, is)))

  pub numbered-here : (from : ℕ) (front : List (Entry T)) (e : Entry T) (back : List (Entry T)) → AreNumbered from (front ++ e ∷ back) → e.index ≡ from + length front
  numbered-here from [] e back h = omega (arith, h.0)
  numbered-here from (x ∷ front) e back h = omega (arith, numbered-here (from + 1) front e back h.1)

  -- the position of a place where a list is cut
  pub position-cut : (front back : List (Entry T)) → AreNumbered 1 (front ++ back) → position_of (length (front ++ back)) (first_index back) ≡ length front
  position-cut front [] h = let none : List (Entry T) = [] in omega (arith, length-append front none)
  position-cut front (e ∷ back) h = omega (arith, numbered-here 1 front e back h)

  -- how often an index is there
  pub times-below : (from : ℕ) (es : List (Entry T)) (i : ℕ) → AreNumbered from es → i < from → times i es ≡ 0
  times-below from [] i h below = refl
  times-below from (e ∷ es) i h below = let other : e.index ≢ i = λ same. omega (arith, same, h.0) in rw (ne_eqb e.index i other) (let rest = times-below (from + 1) es i h.1 (omega arith) in omega arith)

  times-above : (from : ℕ) (es : List (Entry T)) (i : ℕ) → AreNumbered from es → from + length es ≤ i → times i es ≡ 0
  times-above from [] i h above = refl
  times-above from (e ∷ es) i h above = let other : e.index ≢ i = λ same. omega (arith, same, h.0) in rw (ne_eqb e.index i other) (let rest = times-above (from + 1) es i h.1 (omega arith) in omega arith)

  pub times-in : (from : ℕ) (es : List (Entry T)) (i : ℕ) → AreNumbered from es → from ≤ i → i < from + length es → times i es ≡ 1
  times-in from [] i h above below = absurd (omega arith)
  times-in from (e ∷ es) i h above below = elim (cases_eq e.index i) [
    | inl same ↦ rw (eq-eqb e.index i same) (let none = times-below (from + 1) es i h.1 (omega (arith, same, h.0)) in omega arith)
    | inr other ↦ rw (ne_eqb e.index i other) (let rest = times-in (from + 1) es i h.1 (omega (arith, other, h.0)) (omega arith) in omega arith)
  ]

  -- so the vacant indexes are those behind the entries
  module _ (es : List (Entry T)) (h : AreNumbered 1 es) where
    vacant-behind : (count a : ℕ) → 1 + length es ≤ a → vacant_among es a count ≡ range_with_len a count
    vacant-behind zero a behind = refl
    vacant-behind (suc count) a behind = rw (times-above 1 es a h behind) (ap (λ xs. a ∷ xs) (vacant-behind count (a + 1) (omega arith)))

    vacant-from : (skip count a : ℕ) → 1 ≤ a → a + skip ≡ 1 + length es → vacant_among es a (skip + count) ≡ range_with_len (length es + 1) count
    vacant-from zero count a above is =
        let none : zero + count ≡ count = omega arith in
        rw none (vacant-behind count a (omega (arith, is)) ∙ ap (λ n. range_with_len n count) (omega (arith, is)))
    vacant-from (suc skip) count a above is =
        let more : suc skip + count ≡ suc (skip + count) = omega arith in
        rw (more, times-in 1 es a h above (omega (arith, is))) (vacant-from skip count (a + 1) (omega arith) (omega (arith, is)))

    vacant-none : (count a : ℕ) → 1 ≤ a → a + count ≤ 1 + length es → vacant_among es a count ≡ []
    vacant-none zero a above within = refl
    vacant-none (suc count) a above within = rw (times-in 1 es a h above (omega (arith, within))) (vacant-none count (a + 1) (omega arith) (omega (arith, within)))

    pub vacant-numbered : (capacity : ℕ) → vacant_indexes es capacity ≡ range_with_len (length es + 1) (capacity - length es)
    vacant-numbered capacity = elim (cases_lt capacity (length es)) [
      | inl less ↦ vacant-none capacity 1 (omega arith) (omega (arith, less)) ∙ ap (λ n. range_with_len (length es + 1) n) (let none : 0 ≡ capacity - length es = omega (arith, less) in none)
      | inr fits ↦ ap (λ n. vacant_among es 1 n) (omega (arith, fits)) ∙ vacant-from (length es) (capacity - length es) 1 (omega arith) (omega arith)
    ]

  -- another item at an index
  pub numbered-written : (from : ℕ) (es : List (Entry T)) (i : ℕ) (item : T) → AreNumbered from es → AreNumbered from (with_item_among es i item)
  numbered-written from [] i item h = tt
  numbered-written from (e ∷ es) i item h = elim (e.index == i) as (λ b. AreNumbered from (if b then record e { item = item } ∷ es else e ∷ with_item_among es i item)) [
    | true ↦ (h.0, h.1)
    | false ↦ (h.0, numbered-written (from + 1) es i item h.1)
  ]

  -- items that are numbered
  pub numbered-items : (g from : ℕ) (items : List T) → AreNumbered from (numbered g from items)
  numbered-items g from [] = tt
  numbered-items g from (x ∷ items) = (refl, numbered-items g (from + 1) items)

  -- an index finds the entry at its position
  pub found-numbered : (from : ℕ) (es : List (Entry T)) (k : ℕ) (e : Entry T) → AreNumbered from es → slice_get es k ≡ Some e → (e.index ≡ from + k) × (entry_at es (from + k) ≡ Some (e.generation, e.item))
  found-numbered from [] k e h at = absurd cc
  found-numbered from (x ∷ es) zero e h at =
      let same : x ≡ e = cc in
      let here : x.index ≡ from + zero = omega (arith, h.0) in
      subst (λ (y : Entry T). (y.index ≡ from + zero) × (entry_at (x ∷ es) (from + zero) ≡ Some (y.generation, y.item))) same (here, rw (eq-eqb x.index (from + zero) here) refl)
  found-numbered from (x ∷ es) (suc k) e h at =
      let rest = found-numbered (from + 1) es k e h.1 at in
      let sums : from + 1 + k ≡ from + suc k = omega arith in
      let other : x.index ≢ from + suc k = λ same. omega (arith, same, h.0) in
      (rest.0 ∙ sums, rw (ne_eqb x.index (from + suc k) other) (ap (entry_at es) (sym sums) ∙ rest.1))

  -- what is left after a step from the front, and from the back
  pub run-first : (es : List (Entry T)) (from m : ℕ) (e : Entry T) → slice_get es from ≡ Some e → take (suc m) (drop from es) ≡ e ∷ take m (drop (from + 1) es)
  run-first [] from m e at = absurd cc
  run-first (x ∷ es) zero m e at = let same : x ≡ e = cc in ap (λ y. y ∷ take m es) same
  run-first (x ∷ es) (suc k) m e at =
      let more : suc (k + 1) ≡ suc k + 1 = omega arith in
      run-first es k m e at ∙ ap (λ n. e ∷ take m (drop n (x ∷ es))) more

  take-last : (es : List (Entry T)) (m : ℕ) (e : Entry T) → slice_get es m ≡ Some e → take (suc m) es ≡ take m es ++ e ∷ []
  take-last [] m e at = absurd cc
  take-last (x ∷ es) zero e at = let same : x ≡ e = cc in ap (λ y. y ∷ []) same
  take-last (x ∷ es) (suc m) e at = ap (λ ys. x ∷ ys) (take-last es m e at)

  get-behind : (es : List (Entry T)) (from m : ℕ) → slice_get (drop from es) m ≡ slice_get es (from + m)
  get-behind es zero m = ap (slice_get es) (omega arith)
  get-behind [] (suc k) m = refl
  get-behind (x ∷ es) (suc k) m =
      let more : suc (k + m) ≡ suc k + m = omega arith in
      get-behind es k m ∙ ap (slice_get (x ∷ es)) more

  pub run-last : (es : List (Entry T)) (from m : ℕ) (e : Entry T) → slice_get es (from + m) ≡ Some e → take (suc m) (drop from es) ≡ take m (drop from es) ++ e ∷ []
  run-last es from m e at = take-last (drop from es) m e (get-behind es from m ∙ at)

  -- what is between two cuts
  pub run-between : (front middle back : List (Entry T)) → take (length middle) (drop (length front) (front ++ (middle ++ back))) ≡ middle
  run-between front middle back = ap (take (length middle)) (drop-append_seam front (middle ++ back)) ∙ take-append_seam middle back

-- compact chains
module _ {T : Type 0} where
  -- an entry whose index no later one has, and which is the last, has none behind it
  pub none-behind : (front : List (Entry T)) (e : Entry T) (back : List (Entry T)) → times e.index back ≡ 0 → option_map (λ q. q.0) (last_pointer (front ++ e ∷ back)) ≡ Some e.index → back ≡ []
  none-behind [] e [] none last = refl
  none-behind [] e (f ∷ back) none last = absurd (let there = last-there f back e.index last in omega arith)
    where
      last-there : (f : Entry T) (back : List (Entry T)) (i : ℕ) → option_map (λ q. q.0) (last_pointer (f ∷ back)) ≡ Some i → 1 ≤ times i (f ∷ back)
      last-there f [] i last = let same : f.index ≡ i = cc in rw (eq-eqb f.index i same) (omega arith)
      last-there f (g ∷ back) i last = let more = last-there g back i last in omega arith
  none-behind (x ∷ []) e back none last = none-behind [] e back none last
  none-behind (x ∷ y ∷ front) e back none last = none-behind (y ∷ front) e back none last

  -- with other room
  pub compact-resized : (c : Chain T) (n : ℕ) → AreNumbered 1 c.entries → IsCompact (with_capacity c n)
  compact-resized c n h = record { numbered = h; free = vacant-numbered c.entries h n }

  -- with another item
  pub compact-written : (c : Chain T) (i : ℕ) (item : T) → length (with_item_among c.entries i item) ≡ length c.entries → IsCompact c → IsCompact (record c { entries = with_item_among c.entries i item })
  compact-written c i item same h = record { numbered = numbered-written 1 c.entries i item h.numbered; free = h.free ∙ ap (λ n. range_with_len (n + 1) (c.capacity - n)) (sym same) }

  -- with one entry more at the end
  module _ (old new : Chain T) (place : Entry T → List (Entry T)) (behind : (e : Entry T) → place e ≡ old.entries ++ e ∷ []) (t : T) (i g : ℕ) (h : IsCompact old) where
    taken : (m : ℕ) (vacant : List ℕ) → old.capacity - length old.entries ≡ m → vacant ≡ range_with_len (length old.entries + 1) m → slice_get vacant 0 ≡ Some i → IsCompact (inserted_at old place t vacant)
    taken m [] room is next = absurd cc
    taken zero (v ∷ vacant) room is next = absurd cc
    taken (suc m) (v ∷ vacant) room is next =
        let e : Entry T = record { index = v; generation = old.generation; item = t } in
        let here : v ≡ length old.entries + 1 = cc in
        let rest : vacant ≡ range_with_len (length old.entries + 1 + 1) m = cc in
        let long : length (place e) ≡ length old.entries + 1 = omega (arith, ap length (behind e), length-append old.entries (e ∷ [])) in
        record {
          numbered = subst (λ (es : List (Entry T)). AreNumbered 1 es) (sym (behind e)) (numbered-more 1 old.entries e h.numbered (omega (arith, here)));
          free = rest ∙ ap (λ n. range_with_len n m) (omega (arith, long)) ∙ ap (range_with_len (length (place e) + 1)) (omega (arith, long, room));
        }

    pub compact-inserted : IsInsertion old new place t i g → IsCompact new
    compact-inserted one = subst (λ (c : Chain T). IsCompact c) (sym one.after) (taken (old.capacity - length old.entries) old.vacant refl h.free one.next)

  -- without the last entry
  module _ (c : Chain T) (h : IsCompact c) (fits : length c.entries ≤ c.capacity) where
    without-last : (from : ℕ) (es : List (Entry T)) (i : ℕ) → AreNumbered from es → option_map (λ q. q.0) (last_pointer es) ≡ Some i
        → (i + 1 ≡ from + length es) × AreNumbered from (without i es) × (length es ≡ length (without i es) + 1)
    without-last from [] i h last = absurd cc
    without-last from (e ∷ []) i h last = let same : e.index ≡ i = cc in rw (eq-eqb e.index i same) (omega (arith, same, h.0), tt, refl)
    without-last from (e ∷ f ∷ es) i h last =
        let rest = without-last (from + 1) (f ∷ es) i h.1 last in
        let other : e.index ≢ i = λ same. omega (arith, same, h.0, rest.0) in
        rw (ne_eqb e.index i other) (omega (arith, rest.0), (h.0, rest.1), omega (arith, rest.2))

    pub compact-removed : (i g : ℕ) → option_map (λ q. q.0) (last_pointer c.entries) ≡ Some i → IsCompact (record c { entries = without i c.entries; vacant = i ∷ c.vacant; generation = g })
    compact-removed i g last =
        let less = without-last 1 c.entries i h.numbered last in
        let long = less.2 in
        let first : i ≡ length (without i c.entries) + 1 = omega (arith, less.0, long) in
        let second : length c.entries + 1 ≡ length (without i c.entries) + 1 + 1 = omega (arith, long) in
        let room : suc (c.capacity - length c.entries) ≡ c.capacity - length (without i c.entries) = omega (arith, long, fits) in
        record {
          numbered = less.1;
          free = ap (λ v. i ∷ v) h.free ∙ ap (λ n. n ∷ range_with_len (length c.entries + 1) (c.capacity - length c.entries)) first
              ∙ ap (λ n. (length (without i c.entries) + 1) ∷ range_with_len n (c.capacity - length c.entries)) second
              ∙ ap (range_with_len (length (without i c.entries) + 1)) room;
        }

  -- in the canonical order
  pub compact-canonical : (old new : Chain T) (g : ℕ) → new ≡ canonical old g → IsCompact new
  compact-canonical old new g is =
      let items : List T = map (λ (e : Entry T). e.item) old.entries in
      let h = numbered-items g 1 items in
      subst (λ (c : Chain T). IsCompact c) (sym is) (record { numbered = h; free = vacant-numbered (numbered g 1 items) h old.capacity })

  -- as many items appended
  pub compact-appended : (old new : Chain T) (ts : List T) → IsCompact old → Appends old ts new → IsCompact new
  compact-appended old new [] h is = subst (λ (c : Chain T). IsCompact c) (sym is) h
  compact-appended old new (t ∷ ts) h more =
      compact-appended more.0 new ts (compact-inserted old more.0 (λ e. old.entries ++ e ∷ []) (λ e. refl) t more.1.0 more.1.1 h more.2) more.3

  -- grown, if there is no vacant slot
  pub compact-roomy : (most : ℕ) (growth : Growth) (c : Chain T) → IsCompact c → IsCompact (with_room_by growth most c)
  compact-roomy most Within c h = h
  compact-roomy most Reallocating c h = go (is_some (next_index c))
    where
      go : (b : Bool) → IsCompact (if b then c else with_capacity c (grown_capacity most c))
      go true = h
      go false = compact-resized c (grown_capacity most c) h.numbered
