-- The pieces of a time: how a walk goes along them, and what they say of the values.
use Rattle.std.proofs.Common.{◌≡◌, ◌≢◌, ℕ, ◌<◌, ◌≤◌, List, [], ◌∷◌, ◌++◌, map, Option, Some, None, IsSome, refl, sym, ap, subst, ◌∙◌, arith, inl, inr, append_assoc}
use Rattle.std.proofs.{lemmas.Bool.le-leb, lemmas.Bool.lt-leb, lemmas.Bool.Decides.leb_tells}
use Rattle.std.specs.Option.{option_map, option_and_then}
use Rattle.sorted_arena.specs.{Chain.IsDistinct, Chain.item_of, Gap.first_of, Sorted.pointer_of, Sorted.next_of, Sorted.pair_of as entry_item}
use Rattle.sorted_arena.proofs.{OrdLemmas.from_index-here, CallerLemmas.next-here, CallerLemmas.found-here}
use Rattle.timeline.specs.Timeline.{Change, value_after, value_at, IsRising, IsJoinedAfter, AreChanges, HasNone, AreSpans, HasValues, AreGaps}
use Rattle.timeline.specs.{declared.span.Span.Span, declared.walk.Piece.Piece}
use Rattle.timeline.specs.Layout.{change, change_of, later, last_value, left_from, pieces_after, pieces_of, with_span, spans_among, with_gap, gaps_among, IsAround, IsBehind}
use Rattle.timeline.proofs.Cutting.{AreAfter, cut-after, cut-later, later-after, all-weaker, rising-back, joined-back}
use Rattle.timeline.proofs.{Values.value-early, Values.value-late, Around.changes-cut, Around.held-around, Places.Item, Places.unmapped, Places.value-found}

module _ {V : Type 0} where
  -- what is left from the pointer behind a cut on
  module _ (es : List (Item V)) (distinct : IsDistinct es) where
    pub left-behind : (front back : List (Item V)) → es ≡ front ++ back → (next : Option (ℕ × ℕ)) → next ≡ option_map pointer_of (first_of back) → left_from es next ≡ back
    left-behind front [] cut next is = rw is refl
    left-behind front (e ∷ back) cut next is = rw is (from_index-here es distinct front e back cut)

    -- a walk begins
    pub pieces-begun : (from until : ℕ) (beside : Option (ℕ × ℕ) × Option (ℕ × ℕ)) (around : IsAround es from beside) (held : Option V)
        → held ≡ option_and_then (λ x. x.1) (option_and_then (item_of es) beside.0) → pieces_after held (map change (left_from es beside.1)) from until ≡ pieces_of (map change es) from until
    pieces-begun from until beside around held is =
        let value : held ≡ value_at (map change es) from = is ∙ value-found es distinct around.front around.back around.cut beside.0 around.before_is ∙ sym (held-around es from beside around) in
        let rest : map change (left_from es beside.1) ≡ later from (map change es) =
        ap (map change) (left-behind around.front around.back around.cut beside.1 around.after_is)
        ∙ sym (ap (later from) (changes-cut es from beside around) ∙ cut-after from (map change around.front) (map change around.back) around.until around.after) in
        ap (λ (v : Option V). pieces_after v (map change (left_from es beside.1)) from until) value ∙ ap (λ (cs : List (Change V)). pieces_after (value_at (map change es) from) cs from until) rest

    -- the entry at the pointer behind a cut
    module _ (p : ℕ × ℕ) (behind : IsBehind es (Some p)) where
      pub record IsNext : Type 0 where
        pub entry : Item V
        pub rest : List (Item V)
        pub left : left_from es (Some p) ≡ entry ∷ rest
        pub found : item_of es p ≡ Some entry.item
        pub passed : (next : Option (ℕ × ℕ)) → option_map (λ q. q) next ≡ next_of es p → IsBehind es next × (left_from es next ≡ rest)

      pub next-entry : IsNext
      next-entry = go behind.back refl
        where
          go : (b : List (Item V)) → behind.back ≡ b → IsNext
          go [] none = absurd (let no : Some p ≡ None = behind.named ∙ ap (λ (xs : List (Item V)). option_map pointer_of (first_of xs)) none in cc)
          go (e ∷ rest) some =
              let both : Some p ≡ Some (pointer_of e) = behind.named ∙ ap (λ (xs : List (Item V)). option_map pointer_of (first_of xs)) some in
              let named : p ≡ pointer_of e = cc in
              let cut : es ≡ behind.front ++ e ∷ rest = behind.cut ∙ ap (λ (xs : List (Item V)). behind.front ++ xs) some in
              let cut_behind : es ≡ (behind.front ++ e ∷ []) ++ rest = cut ∙ sym (append_assoc behind.front (e ∷ []) rest) in
              record {
                entry = e;
                rest = rest;
                left = left-behind behind.front behind.back behind.cut (Some p) behind.named ∙ some;
                found = ap (item_of es) named ∙ found-here es distinct behind.front e rest cut;
                passed = λ next is.
                    let at : next ≡ option_map pointer_of (first_of rest) = sym (unmapped next) ∙ is ∙ ap (next_of es) named ∙ next-here es distinct behind.front e rest cut in
                    (record { distinct = distinct; front = behind.front ++ e ∷ []; back = rest; cut = cut_behind; named = at }, left-behind (behind.front ++ e ∷ []) rest cut_behind next at);
              }

  -- no piece is left
  pub pieces-none : (held : Option V) (cs : List (Change V)) (from until : ℕ) → until ≤ from → pieces_after held cs from until ≡ []
  pieces-none held [] from until over = rw (le-leb until from over) refl
  pieces-none held (c ∷ cs) from until over = rw (le-leb until from over) refl

  -- the last piece
  pub pieces-last : (held : Option V) (cs : List (Change V)) (from until : ℕ) → from < until → ((c : Change V) (rest : List (Change V)) → cs ≡ c ∷ rest → until ≤ c.time)
      → pieces_after held cs from until ≡ record { from = from; until = until; value = held } ∷ []
  pieces-last held [] from until some far = rw (lt-leb until from some) refl
  pieces-last held (c ∷ cs) from until some far = rw (lt-leb until from some, le-leb until c.time (far c cs refl)) refl

  -- a piece before a change
  pub pieces-more : (held : Option V) (c : Change V) (cs : List (Change V)) (from until : ℕ) → from < until → c.time < until
      → pieces_after held (c ∷ cs) from until ≡ record { from = from; until = c.time; value = held } ∷ pieces_after c.value cs c.time until
  pieces-more held c cs from until some near = rw (lt-leb until from some, lt-leb until c.time near) refl

  module _ (es : List (Item V)) (distinct : IsDistinct es) (next : Option (ℕ × ℕ)) (behind : IsBehind es next) (held : Option V) (from until : ℕ) (some : from < until) where
    -- a walk goes on to the next change
    module _ (p : ℕ × ℕ) (is : next ≡ Some p) where
      at-next : IsNext es distinct p (subst (IsBehind es) is behind)
      at-next = next-entry es distinct p (subst (IsBehind es) is behind)

      left-next : left_from es next ≡ at-next.entry ∷ at-next.rest
      left-next = ap (left_from es) is ∙ at-next.left

      pub walked-behind : (q : Option (ℕ × ℕ)) → option_map (λ q. q) q ≡ next_of es p → IsBehind es q
      walked-behind q named = (at-next.passed q named).0

      pub walked-lost : None ≡ item_of es p → ⊥
      walked-lost lost = let both = lost ∙ at-next.found in cc

      module _ (item : ℕ × Option V) (found : Some item ≡ item_of es p) where
        item-is : item ≡ at-next.entry.item
        item-is = let both : Some item ≡ Some at-next.entry.item = found ∙ at-next.found in cc

        pub walked : item.0 < until → (q : Option (ℕ × ℕ)) → option_map (λ q. q) q ≡ next_of es p → (then : Option V) → then ≡ item.1
            → pieces_after held (map change (left_from es next)) from until ≡ record { from = from; until = item.0; value = held } ∷ pieces_after then (map change (left_from es q)) item.0 until
        walked near q named then value =
            ap (λ (xs : List (Item V)). pieces_after held (map change xs) from until) left-next
            ∙ pieces-more held (change at-next.entry) (map change at-next.rest) from until some (omega (arith, near, ap (λ (x : ℕ × Option V). x.0) item-is))
            ∙ ap (λ (x : ℕ × Option V). record { from = from; until = x.0; value = held } ∷ pieces_after x.1 (map change at-next.rest) x.0 until) (sym item-is)
            ∙ ap (λ (v : Option V). record { from = from; until = item.0; value = held } ∷ pieces_after v (map change at-next.rest) item.0 until) (sym value)
            ∙ ap (λ (xs : List (Item V)). record { from = from; until = item.0; value = held } ∷ pieces_after then (map change xs) item.0 until) (sym (at-next.passed q named).1)

        pub walked-far : until ≤ item.0 → pieces_after held (map change (left_from es next)) from until ≡ record { from = from; until = until; value = held } ∷ pieces_after held (map change (left_from es next)) until until
        walked-far far =
            ap (λ (xs : List (Item V)). pieces_after held (map change xs) from until) left-next
            ∙ pieces-last held (change at-next.entry ∷ map change at-next.rest) from until some (λ c rest same. let here : change at-next.entry ≡ c = cc in omega (arith, far, ap (λ (x : ℕ × Option V). x.0) item-is, ap (λ (d : Change V). d.time) here))
            ∙ ap (λ (ps : List (Piece V)). record { from = from; until = until; value = held } ∷ ps) (sym (pieces-none held (map change (left_from es next)) until until (omega arith)))

    -- nothing is left
    pub walked-end : next ≡ None → pieces_after held (map change (left_from es next)) from until ≡ record { from = from; until = until; value = held } ∷ pieces_after held (map change (left_from es next)) until until
    walked-end is =
        ap (λ (n : Option (ℕ × ℕ)). pieces_after held (map change (left_from es n)) from until) is
        ∙ pieces-last held [] from until some (λ c rest same. absurd (cc))
        ∙ ap (λ (ps : List (Piece V)). record { from = from; until = until; value = held } ∷ ps) (sym (pieces-none held (map change (left_from es next)) until until (omega arith)))

  -- What pieces say: each begins where the one before it ended, over each nothing changes, and between two the value does.
  module _ (all : List (Change V)) where
    abbrev Holds : Option V → ℕ → ℕ → Type 0
    Holds held from until = (t : ℕ) → from ≤ t → t < until → value_at all t ≡ held

    abbrev pub ArePieces : ℕ → ℕ → List (Piece V) → Type 0
    ArePieces from until [] = until ≤ from
    ArePieces from until (p ∷ ps) = (p.from ≡ from) × (p.from < p.until) × (p.until ≤ until) × Holds p.value p.from p.until × (p.until < until → value_at all p.until ≢ p.value) × ArePieces p.until until ps

    -- where the changes that are still to come say what holds
    abbrev HoldsBy : Option V → List (Change V) → ℕ → Type 0
    HoldsBy held cs from = (t : ℕ) → from ≤ t → value_at all t ≡ value_after held cs t

    value-past : (held : Option V) (c : Change V) (cs : List (Change V)) (t : ℕ) → c.time ≤ t → value_after held (c ∷ cs) t ≡ value_after c.value cs t
    value-past held c cs t past = rw (le-leb c.time t past) refl

    value-yet : (held : Option V) (c : Change V) (cs : List (Change V)) (t : ℕ) → t < c.time → value_after held (c ∷ cs) t ≡ held
    value-yet held c cs t sooner = rw (lt-leb c.time t sooner) refl

    pieces-after : (held : Option V) (cs : List (Change V)) (from until : ℕ) → AreAfter from cs → IsRising cs → IsJoinedAfter held cs → HoldsBy held cs from → ArePieces from until (pieces_after held cs from until)
    pieces-after held [] from until later rising joined same = elim (leb_tells until from) [
      | inl h ↦ rw h.0 h.1
      | inr h ↦ rw h.0 (refl, h.1, omega arith, λ t past sooner. same t past, λ sooner. absurd (omega (arith, sooner)), omega arith)
    ]
    pieces-after held (c ∷ cs) from until later rising joined same = elim (leb_tells until from) [
      | inl h ↦ rw h.0 h.1
      | inr h ↦ elim (leb_tells until c.time) [
        | inl k ↦ rw (h.0, k.0) (refl, h.1, omega arith, λ t past sooner. same t past ∙ value-yet held c cs t (omega (arith, k.1, sooner)), λ sooner. absurd (omega (arith, sooner)), omega arith)
        | inr k ↦ rw (h.0, k.0) (
          refl,
          later.0,
          omega (arith, k.1),
          λ t past sooner. same t past ∙ value-yet held c cs t sooner,
          λ sooner is. joined.0 (sym (same c.time (omega (arith, later.0)) ∙ value-past held c cs c.time (omega arith) ∙ value-early c.value cs c.time rising.0) ∙ is),
          pieces-after c.value cs c.time until rising.0 rising.1 joined.1 (λ t past. same t (omega (arith, past, later.0)) ∙ value-past held c cs t past),
        )
      ]
    ]

    pub pieces-are : (from until : ℕ) → AreChanges all → ArePieces from until (pieces_of all from until)
    pieces-are from until lawful =
        let parts = cut-later from all lawful.rising in
        let high = later from all in
        let last : value_at all from ≡ last_value None parts.0 = ap (λ cs. value_at cs from) parts.1 ∙ value-late None parts.0 high from parts.2 ∙ value-early (last_value None parts.0) high from (later-after from all) in
        pieces-after (value_at all from) high from until (later-after from all) (rising-back parts.0 high (subst IsRising parts.1 lawful.rising))
        (subst (λ (v : Option V). IsJoinedAfter v high) (sym last) (joined-back None parts.0 high (subst (IsJoinedAfter None) parts.1 lawful.joined)))
        (λ t past. ap (λ cs. value_at cs t) parts.1 ∙ value-late None parts.0 high t (all-weaker _ _ (λ c is. omega (arith, is, past)) parts.0 parts.2) ∙ ap (λ (v : Option V). value_after v high t) (sym last))

    -- what is true from one time until another, and from then until a third, is true from the first until the third
    throughout : (P : ℕ → Type 0) (from mid until : ℕ) → ((t : ℕ) → from ≤ t → t < mid → P t) → ((t : ℕ) → mid ≤ t → t < until → P t) → (t : ℕ) → from ≤ t → t < until → P t
    throughout P from mid until first second t past sooner = elim (leb_tells mid t) [
      | inl h ↦ second t h.1 sooner
      | inr h ↦ first t past h.1
    ]

    -- where none holds before the first of them
    spans-later : (from mid until : ℕ) (spans : List (Span V)) → from ≤ mid → HasNone all from mid → AreSpans all mid until spans → AreSpans all from until spans
    spans-later from mid until [] before none rest = throughout (λ t. value_at all t ≡ None) from mid until none rest
    spans-later from mid until (span ∷ spans) before none rest = (
      record {
        begins = omega (arith, before, rest.0.begins);
        lasts = rest.0.lasts;
        ends = rest.0.ends;
        none_before = throughout (λ t. value_at all t ≡ None) from mid span.from none rest.0.none_before;
        holds = rest.0.holds;
        another_after = rest.0.another_after;
      },
      rest.1,
    )

    pub spans-are : (from until : ℕ) (ps : List (Piece V)) → ArePieces from until ps → AreSpans all from until (spans_among ps)
    spans-are from until [] over = λ t past sooner. absurd (omega (arith, over, past, sooner))
    spans-are from until (p ∷ ps) (begins, lasts, ends, holds, another, rest) = go p.value refl (spans-are p.until until ps rest)
      where
        go : (o : Option V) → p.value ≡ o → AreSpans all p.until until (spans_among ps) → AreSpans all from until (with_span p.from p.until p.value (spans_among ps))
        go None is others = rw is (spans-later from p.until until (spans_among ps) (omega (arith, begins, lasts)) (λ t past sooner. holds t (omega (arith, begins, past)) sooner ∙ is) others)
        go (Some v) is others = rw is (
          record {
            begins = omega (arith, begins);
            lasts = lasts;
            ends = ends;
            none_before = λ t past sooner. absurd (omega (arith, begins, past, sooner));
            holds = λ t past sooner. holds t past sooner ∙ is;
            another_after = λ sooner same. another sooner (same ∙ sym is);
          },
          others,
        )

    -- where a value holds before the first of them
    gaps-later : (from mid until : ℕ) (gaps : List _) → from ≤ mid → HasValues all from mid → AreGaps all mid until gaps → AreGaps all from until gaps
    gaps-later from mid until [] before values rest = throughout (λ t. IsSome (value_at all t)) from mid until values rest
    gaps-later from mid until (gap ∷ gaps) before values rest = (
      record {
        begins = omega (arith, before, rest.0.begins);
        lasts = rest.0.lasts;
        ends = rest.0.ends;
        values_before = throughout (λ t. IsSome (value_at all t)) from mid gap.from values rest.0.values_before;
        none = rest.0.none;
        value_after = rest.0.value_after;
      },
      rest.1,
    )

    some-held : (o : Option V) → o ≢ None → IsSome o
    some-held None other = absurd (other refl)
    some-held (Some v) other = refl

    pub gaps-are : (from until : ℕ) (ps : List (Piece V)) → ArePieces from until ps → AreGaps all from until (gaps_among ps)
    gaps-are from until [] over = λ t past sooner. absurd (omega (arith, over, past, sooner))
    gaps-are from until (p ∷ ps) (begins, lasts, ends, holds, another, rest) = go p.value refl (gaps-are p.until until ps rest)
      where
        go : (o : Option V) → p.value ≡ o → AreGaps all p.until until (gaps_among ps) → AreGaps all from until (with_gap p.from p.until p.value (gaps_among ps))
        go (Some v) is others = rw is (gaps-later from p.until until (gaps_among ps) (omega (arith, begins, lasts)) (λ t past sooner. subst IsSome (sym (holds t (omega (arith, begins, past)) sooner ∙ is)) refl) others)
        go None is others = rw is (
          record {
            begins = omega (arith, begins);
            lasts = lasts;
            ends = ends;
            values_before = λ t past sooner. absurd (omega (arith, begins, past, sooner));
            none = λ t past sooner. holds t past sooner ∙ is;
            value_after = λ sooner. some-held (value_at all p.until) (λ same. another sooner (same ∙ sym is));
          },
          others,
        )

  -- the changes of an arena by its pairs
  pub listed : (es : List (Item V)) → map change_of (map entry_item es) ≡ map change es
  listed [] = refl
  listed (e ∷ es) = ap (λ cs. change e ∷ cs) (listed es)
