-- Where reading a ladder begins: the level before a rank, and the first order from a rank on.
use Rattle.std.proofs.Common.{◌≡◌, ℕ, ◌<◌, ◌≤◌, true, false, Bool, List, [], ◌∷◌, ◌++◌, map, filter, Option, Some, None, IsSome, is_some, refl, sym, ap, subst, ◌∙◌, append_assoc, arith, leb, nat_lt, inl, inr}
use Rattle.std.proofs.lemmas.{Grind.common_steps, Bool.Decides.eqb_tells, Bool.Decides.nat_tests, List.map-append, List.append-nil}
use Rattle.std.specs.{List.AllByRecursion, Option.option_map, Ordering.nat_cmp, Ordering.is_le, Ordering.is_lt}
use Rattle.chain_base.specs.Chain.{Entry, IsDistinct, entry_at, item_of, from_index, first_pointer, last_pointer, last_or, link_at}
use Rattle.chain_base.specs.Link.{Link}
use Rattle.sorted_arena.specs.Gap.{last_of, first_of}
use Rattle.sorted_arena.specs.Sorted.{first_where, next_of, pointer_of, prev_of}
use Rattle.sorted_arena.proofs.OrdLemmas.{entry_at-here, link-read, from_index-here, ends, StandsAt, stands, recursion-map as all-weaker}
use Rattle.chain_base.proofs.CallerLemmas.{entry_at-link}
use Rattle.sorted_arena.proofs.CallerLemmas.{found-here, next-here, prev-here}
use Rattle.order_book.specs.{declared.order.Lot.Lot, declared.ladder.Resting.Resting, declared.ladder.Totals.Totals}
use Rattle.order_book.specs.Ladder.{row_of, rows_left, AreLaid, Rise}
use Rattle.order_book.proofs.Rows.{LevelEntry, OrderEntry, Orders, Levels, distinct-rows, item-rows, row_item}
use Rattle.order_book.proofs.Laying.{CutBy, cut-by, until-fails, below-fails, LaidCut, laid-cut, all-laid}
use Rattle.order_book.proofs.Places.{same-index, last_or-of, last_or-behind, NamedCut, named-cut, EndCut, end-cut, no-end, last-occupied}

-- the first entry behind a cut, where a test fails up to the cut and passes from there on
first-behind : (test : LevelEntry → Bool) (low high : Levels) → AllByRecursion (λ (l : LevelEntry). test l ≡ false) low
    → AllByRecursion (λ (l : LevelEntry). test l ≡ true) high → first_where test (low ++ high) ≡ first_pointer high
first-behind test [] [] fails passes = refl
first-behind test [] (l ∷ high) fails passes = rw passes.0 refl
first-behind test (l ∷ low) high fails passes = rw fails.0 (first-behind test low high fails.1 passes)

module _ (rank : ℕ) (ls : Levels) (rise : Rise ls) where
  -- up to a rank
  abbrev pub cut-until : CutBy (λ (r : ℕ). leb r rank) ls
  cut-until = cut-by (λ (r : ℕ). leb r rank) (until-fails rank) ls rise

  above-greater : (r : ℕ) → leb r rank ≡ true → is_lt (nat_cmp rank r) ≡ false
  above-greater r most = grind (arith, nat_tests, most)

  above-passes : (r : ℕ) → leb r rank ≡ false → is_lt (nat_cmp rank r) ≡ true
  above-passes r more = grind (arith, nat_tests, more)

  pub until-first : first_where (λ (l : LevelEntry). is_lt (nat_cmp rank l.item.0)) ls ≡ first_pointer cut-until.high
  until-first = ap (first_where (λ (l : LevelEntry). is_lt (nat_cmp rank l.item.0))) cut-until.cut
      ∙ first-behind (λ (l : LevelEntry). is_lt (nat_cmp rank l.item.0)) cut-until.low cut-until.high
      (all-weaker _ _ (λ l passes. above-greater l.item.0 passes) cut-until.low cut-until.passing)
      (all-weaker _ _ (λ l fails. above-passes l.item.0 fails) cut-until.high cut-until.failing)

  -- below a rank
  abbrev pub cut-below : CutBy (λ (r : ℕ). nat_lt r rank) ls
  cut-below = cut-by (λ (r : ℕ). nat_lt r rank) (below-fails rank) ls rise

  from-greater : (r : ℕ) → nat_lt r rank ≡ true → is_le (nat_cmp rank r) ≡ false
  from-greater r less = grind (arith, nat_tests, less)

  from-passes : (r : ℕ) → nat_lt r rank ≡ false → is_le (nat_cmp rank r) ≡ true
  from-passes r more = grind (arith, nat_tests, more)

  pub below-first : first_where (λ (l : LevelEntry). is_le (nat_cmp rank l.item.0)) ls ≡ first_pointer cut-below.high
  below-first = ap (first_where (λ (l : LevelEntry). is_le (nat_cmp rank l.item.0))) cut-below.cut
      ∙ first-behind (λ (l : LevelEntry). is_le (nat_cmp rank l.item.0)) cut-below.low cut-below.high
      (all-weaker _ _ (λ l passes. from-greater l.item.0 passes) cut-below.low cut-below.passing)
      (all-weaker _ _ (λ l fails. from-passes l.item.0 fails) cut-below.high cut-below.failing)

lt-is : (rank r : ℕ) → nat_lt r rank ≡ true → r < rank
lt-is rank r is = grind (arith, nat_tests, is)

lt-not : (rank r : ℕ) → nat_lt r rank ≡ false → rank ≤ r
lt-not rank r is = grind (arith, nat_tests, is)

module _ {T : Type 0} where
  -- the last order of some levels is that of the last one
  pub laid-last : (ls : Levels) (l : LevelEntry) (es : Orders T) → AreLaid (ls ++ l ∷ []) es → last_or None es ≡ Some l.item.1.last
  laid-last [] l es laid =
      ap (last_or None) (laid.2 ∙ ap (λ (xs : Orders T). laid.0 ++ xs) laid.4 ∙ append-nil laid.0) ∙ laid.3.last
  laid-last (m ∷ ls) l es laid = ap (last_or None) laid.2 ∙ last_or-behind laid.0 laid.1 _ (laid-last ls l laid.1 laid.4)

  -- rows from the first of some orders on
  pub whole-rows : (es : Orders T) → rows_left es (option_map (λ (p : ℕ × ℕ). p.0) (first_pointer es)) ≡ map row_of es
  whole-rows [] = refl
  whole-rows (e ∷ es) = elim (eqb_tells e.index e.index) [
    | inl h ↦ rw h.0 refl
    | inr h ↦ absurd (h.1 refl)
  ]

  module _ (es : Orders T) (distinct : IsDistinct es) where
    pub rows-behind : (front back : Orders T) → es ≡ front ++ back → rows_left es (option_map (λ (e : OrderEntry T). e.index) (first_of back)) ≡ map row_of back
    rows-behind front [] cut = refl
    rows-behind front (b ∷ back) cut = ap (map row_of) (from_index-here es distinct front b back cut)

    -- behind the entry at an index, as its link names the next one
    pub rows-linked : (front back : Orders T) → es ≡ front ++ back → (i : ℕ) → last_or None front ≡ Some i → (g : ℕ) (l : Link (Resting T)) → link_at es i ≡ Some (g, l)
        → rows_left es l.next ≡ map row_of back
    rows-linked front back cut i last g l there = go (last_of None front) refl
      where
        go : (o : Option ((OrderEntry T))) → last_of None front ≡ o → rows_left es l.next ≡ map row_of back
        go None is = absurd (let none = last_or-of None front ∙ ap (option_map (λ (e : OrderEntry T). e.index)) is in cc)
        go (Some x) is =
            let end = ends front x is in
            let here : x.index ≡ i = (let both = sym (last_or-of None front ∙ ap (option_map (λ (e : OrderEntry T). e.index)) is) ∙ last in cc) in
            let whole : es ≡ end.0 ++ x ∷ back = cut ∙ ap (λ (xs : Orders T). xs ++ back) end.1 ∙ append_assoc end.0 (x ∷ []) back in
            let linked = link-read es distinct end.0 x back whole g l (ap (link_at es) here ∙ there) in
            ap (rows_left es) (sym linked.next) ∙ rows-behind front back cut

  -- the rows whose rank is at least another
  module _ (rank : ℕ) where
    abbrev pub is_from : Entry (ℕ × Lot T) → Bool
    is_from e = leb rank e.item.0

    kept : (es : Orders T) → AllByRecursion (λ (e : OrderEntry T). rank ≤ e.item.rank) es → filter is_from (map row_of es) ≡ map row_of es
    kept [] all = refl
    kept (e ∷ es) all = let passes : leb rank e.item.rank ≡ true = grind (arith, nat_tests, all.0) in rw passes (ap (λ xs. row_of e ∷ xs) (kept es all.1))

    skipped : (front : Orders T) (xs : List (Entry (ℕ × Lot T))) → AllByRecursion (λ (e : OrderEntry T). e.item.rank < rank) front → filter is_from (map row_of front ++ xs) ≡ filter is_from xs
    skipped [] xs all = refl
    skipped (e ∷ front) xs all = let fails : leb rank e.item.rank ≡ false = grind (arith, nat_tests, all.0) in rw fails (skipped front xs all.1)

    pub rows-from : (ls : Levels) (es : Orders T) (c : CutBy (λ (r : ℕ). nat_lt r rank) ls) (at : LaidCut c.low c.high es) → filter is_from (map row_of es) ≡ map row_of at.back
    rows-from ls es c at =
        ap (λ (xs : Orders T). filter is_from (map row_of xs)) at.cut ∙ ap (filter is_from) (map-append row_of at.front at.back)
        ∙ skipped at.front (map row_of at.back) (all-laid (λ (r : ℕ). r < rank) c.low at.front (all-weaker _ _ (λ l passes. lt-is rank l.item.0 passes) c.low c.passing) at.laid_low)
        ∙ kept at.back (all-laid (λ (r : ℕ). rank ≤ r) c.high at.back (all-weaker _ _ (λ l fails. lt-not rank l.item.0 fails) c.high c.failing) at.laid_high)

-- the level before a cut
last_pointer-of : (es : Levels) → last_pointer es ≡ option_map pointer_of (last_of None es)
last_pointer-of [] = refl
last_pointer-of (e ∷ []) = refl
last_pointer-of (e ∷ f ∷ es) = last_pointer-of (f ∷ es)

pub before-cut : (ls : Levels) → IsDistinct ls → (low high : Levels) → ls ≡ low ++ high → (p : ℕ × ℕ) → Some p ≡ first_pointer high → prev_of ls p ≡ last_pointer low
before-cut ls distinct low [] cut p first = absurd (cc)
before-cut ls distinct low (h ∷ high) cut p first =
    let here : p ≡ pointer_of h = cc in
    ap (prev_of ls) here ∙ prev-here ls distinct low h high cut ∙ sym (last_pointer-of low)

module _ {T : Type 0} where
  -- the row behind the one that a pointer names, by the link of that
  pub record NextRow (es : Orders T) (p : ℕ × ℕ) (next : Option ℕ) : Type 0 where
    pub ended : next ≡ None → next_of (map row_of es) p ≡ None
    pub goes : (i : ℕ) → next ≡ Some i → (y : OrderEntry T) × (entry_at es i ≡ Some (y.generation, y.item)) × (next_of (map row_of es) p ≡ Some (i, y.generation))

  module _ (es : Orders T) (distinct : IsDistinct es) (p : ℕ × ℕ) where
    item-there : (there : IsSome (item_of (map row_of es) p)) → (r : Resting T) × (item_of es p ≡ Some r)
    item-there there = go (item_of es p) refl
      where
        go : (o : Option (Resting T)) → item_of es p ≡ o → (r : Resting T) × (item_of es p ≡ Some r)
        go None is = absurd (let lost : item_of (map row_of es) p ≡ None = item-rows es p ∙ ap (option_map row_item) is in cc)
        go (Some r) is = (r, is)

    module _ (there : IsSome (item_of (map row_of es) p)) where
      named : NamedCut es p (item-there there).0
      named = named-cut es p (item-there there).0 (item-there there).1

      pub named-occupied : IsSome (entry_at es p.0)
      named-occupied = rw named.pointer (ap is_some (entry_at-here es distinct named.front named.entry named.back named.cut))

      pub next-row : (l : Link (Resting T)) → option_map (λ (e : ℕ × Link (Resting T)). e.1) (link_at es p.0) ≡ Some l → NextRow es p l.next
      next-row l read = go (link_at es p.0) refl read
        where
          rows_cut : map row_of es ≡ map row_of named.front ++ row_of named.entry ∷ map row_of named.back
          rows_cut = ap (map row_of) named.cut ∙ map-append row_of named.front (named.entry ∷ named.back)

          next_rows : next_of (map row_of es) p ≡ option_map pointer_of (first_of (map row_of named.back))
          next_rows = ap (next_of (map row_of es)) named.pointer ∙ next-here (map row_of es) (distinct-rows es distinct) (map row_of named.front) (row_of named.entry) (map row_of named.back) rows_cut

          go : (o : Option (ℕ × Link (Resting T))) → link_at es p.0 ≡ o → option_map (λ (e : ℕ × Link (Resting T)). e.1) o ≡ Some l → NextRow es p l.next
          go None is read = absurd (cc)
          go (Some e) is read =
              let same : e.1 ≡ l = cc in
              let at : link_at es named.entry.index ≡ Some (e.0, e.1) = ap (λ (q : ℕ × ℕ). link_at es q.0) (sym named.pointer) ∙ is in
              let linked = link-read es distinct named.front named.entry named.back named.cut e.0 e.1 at in
              let next : option_map (λ (x : OrderEntry T). x.index) (first_of named.back) ≡ l.next = linked.next ∙ ap (λ (m : Link (Resting T)). m.next) same in
              after named.back refl next
            where
              after : (back : Orders T) → named.back ≡ back → option_map (λ (x : OrderEntry T). x.index) (first_of named.back) ≡ l.next → NextRow es p l.next
              after [] nil next = record {
                ended = λ none. next_rows ∙ ap (λ (xs : Orders T). option_map pointer_of (first_of (map row_of xs))) nil;
                goes = λ i some. absurd (let none : l.next ≡ None = sym next ∙ ap (λ (xs : Orders T). option_map (λ (x : OrderEntry T). x.index) (first_of xs)) nil in cc);
              }
              after (y ∷ back) cons next =
                  let is : l.next ≡ Some y.index = sym next ∙ ap (λ (xs : Orders T). option_map (λ (x : OrderEntry T). x.index) (first_of xs)) cons in
                  let whole : es ≡ (named.front ++ named.entry ∷ []) ++ y ∷ back =
                  named.cut ∙ ap (λ (xs : Orders T). named.front ++ named.entry ∷ xs) cons ∙ sym (append_assoc named.front (named.entry ∷ []) (y ∷ back)) in
                  record {
                    ended = λ none. absurd (cc);
                    goes = λ i some.
                        let here : y.index ≡ i = cc in (
                          y,
                          ap (entry_at es) (sym here) ∙ entry_at-here es distinct (named.front ++ named.entry ∷ []) y back whole,
                          next_rows ∙ ap (λ (xs : Orders T). option_map pointer_of (first_of (map row_of xs))) cons ∙ ap (λ (j : ℕ). Some (j, y.generation)) here,
                        );
                  }

  -- The rows whose rank is at least another, by the last level before that.
  module _ (rank : ℕ) (ls : Levels) (es : Orders T) (laid : AreLaid ls es) (rise : Rise ls) where
    abbrev low : Levels
    low = (cut-below rank ls rise).low

    cut_at : LaidCut low (cut-below rank ls rise).high es
    cut_at = laid-cut low (cut-below rank ls rise).high es (subst (λ (ms : Levels). AreLaid ms es) (cut-below rank ls rise).cut laid)

    from_cut : filter (is_from rank) (map row_of es) ≡ map row_of cut_at.back
    from_cut = rows-from rank ls es (cut-below rank ls rise) cut_at

    -- none is before it
    pub from-first : None ≡ last_pointer (filter (λ (l : LevelEntry). nat_lt l.item.0 rank) ls) → map row_of es ≡ filter (is_from rank) (map row_of es)
    from-first last =
        let none : low ≡ [] = no-end low (last ∙ ap last_pointer (cut-below rank ls rise).low_is) in
        let front : cut_at.front ≡ [] = subst (λ (ms : Levels). AreLaid ms cut_at.front) none cut_at.laid_low in
        ap (map row_of) (cut_at.cut ∙ ap (λ (xs : Orders T). xs ++ cut_at.back) front) ∙ sym from_cut

    -- one is the last of those
    module _ (p : ℕ × ℕ) (last : Some p ≡ last_pointer (filter (λ (l : LevelEntry). nat_lt l.item.0 rank) ls)) where
      abbrev below_end : EndCut low p
      below_end = end-cut low p (last ∙ ap last_pointer (cut-below rank ls rise).low_is)

      below_whole : ls ≡ below_end.front ++ below_end.entry ∷ (cut-below rank ls rise).high
      below_whole = (cut-below rank ls rise).cut ∙ ap (λ (ms : Levels). ms ++ (cut-below rank ls rise).high) below_end.cut ∙ append_assoc below_end.front (below_end.entry ∷ []) (cut-below rank ls rise).high

      abbrev pub below-item : ℕ × Totals
      below-item = below_end.entry.item

      pub below-found : IsDistinct ls → item_of ls p ≡ Some below-item
      below-found distinct = ap (item_of ls) below_end.pointer ∙ found-here ls distinct below_end.front below_end.entry (cut-below rank ls rise).high below_whole

      module _ (item : ℕ × Totals) (is : below-item ≡ item) where
        last_is : last_or None cut_at.front ≡ Some item.1.last
        last_is = laid-last below_end.front below_end.entry cut_at.front (subst (λ (ms : Levels). AreLaid ms cut_at.front) below_end.cut cut_at.laid_low) ∙ ap (λ (x : ℕ × Totals). Some x.1.last) is

        pub below-occupied : IsSome (entry_at es item.1.last)
        below-occupied = subst (λ (xs : Orders T). IsSome (entry_at xs item.1.last)) (sym cut_at.cut) (last-occupied cut_at.front cut_at.back item.1.last last_is)

        pub from-linked : IsDistinct es → (l : Link (Resting T)) → option_map (λ (e : ℕ × Link (Resting T)). e.1) (link_at es item.1.last) ≡ Some l → (o : Option ℕ) → option_map (λ (i : ℕ). i) o ≡ l.next
            → rows_left es o ≡ filter (is_from rank) (map row_of es)
        from-linked distinct l read o next = go (link_at es item.1.last) refl read
          where
            go : (e : Option (ℕ × Link (Resting T))) → link_at es item.1.last ≡ e → option_map (λ (e : ℕ × Link (Resting T)). e.1) e ≡ Some l → rows_left es o ≡ filter (is_from rank) (map row_of es)
            go None there read = absurd (cc)
            go (Some e) there read =
                let same : e.1 ≡ l = cc in
                ap (rows_left es) (sym (same-index o) ∙ next ∙ ap (λ (m : Link (Resting T)). m.next) (sym same))
                ∙ rows-linked es distinct cut_at.front cut_at.back cut_at.cut item.1.last last_is e.0 e.1 there ∙ sym from_cut

  -- A step along the rows: what is left from an index on, by the link there.
  from-absent : (es : Orders T) (i : ℕ) → entry_at es i ≡ None → from_index es i ≡ []
  from-absent [] i none = refl
  from-absent (e ∷ es) i none = grind (arith, common_steps, from-absent es i)

  pub left-ended : (es : Orders T) (i : ℕ) → None ≡ link_at es i → rows_left es (Some i) ≡ []
  left-ended es i none = ap (map row_of) (from-absent es i (entry_at-link None None es i ∙ ap (option_map (λ (e : ℕ × Link (Resting T)). (e.0, e.1.item))) (sym none)))

  pub left-step : (es : Orders T) → IsDistinct es → (i g : ℕ) (l : Link (Resting T)) → Some (g, l) ≡ link_at es i
      → rows_left es (Some i) ≡ record { index = i; generation = g; item = (l.item.rank, l.item.lot) } ∷ rows_left es l.next
  left-step es distinct i g l there = go (stands es i occupied)
    where
      occupied : IsSome (entry_at es i)
      occupied = ap is_some (entry_at-link None None es i ∙ ap (option_map (λ (e : ℕ × Link (Resting T)). (e.0, e.1.item))) (sym there))

      go : StandsAt es i → rows_left es (Some i) ≡ record { index = i; generation = g; item = (l.item.rank, l.item.lot) } ∷ rows_left es l.next
      go s =
          let linked = link-read es distinct s.front s.entry s.back s.cut g l (ap (link_at es) s.here ∙ sym there) in
          let whole : es ≡ (s.front ++ s.entry ∷ []) ++ s.back = s.cut ∙ sym (append_assoc s.front (s.entry ∷ []) s.back) in
          ap (λ (j : ℕ). map row_of (from_index es j)) (sym s.here) ∙ ap (map row_of) (from_index-here es distinct s.front s.entry s.back s.cut)
          ∙ ap (λ (xs : List (Entry (ℕ × Lot T))). row_of s.entry ∷ xs) (sym (rows-behind es distinct (s.front ++ s.entry ∷ []) s.back whole) ∙ ap (rows_left es) linked.next)
          ∙ ap (λ (e : Entry (ℕ × Lot T)). e ∷ rows_left es l.next)
          (ap (λ (j : ℕ). record { index = j; generation = s.entry.generation; item = (s.entry.item.rank, s.entry.item.lot) }) s.here
          ∙ ap (λ (h : ℕ). record { index = i; generation = h; item = (s.entry.item.rank, s.entry.item.lot) }) linked.generation
          ∙ ap (λ (r : Resting T). record { index = i; generation = g; item = (r.rank, r.lot) }) linked.item)
