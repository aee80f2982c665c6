-- Places of an arena's list: what pointers find beside them.
use Rattle.std.proofs.Common.{◌≡◌, ◌≢◌, ℕ, ◌<◌, ◌≤◌, List, [], ◌∷◌, ◌++◌, map, Option, Some, None, true, false, refl, sym, ap, ◌∙◌, arith, inl, inr, append_assoc}
use Rattle.std.proofs.{lemmas.Bool.Decides.leb_tells, lemmas.Bool.Decides.nat_tests, lemmas.List.append-nil, lemmas.List.Elements.recursion_from_All}
use Rattle.std.specs.{List.AllByRecursion, Option.option_map, Option.option_and_then, Ordering.nat_cmp, Ordering.is_lt}
use Rattle.std.specs.declared.cmp.Ordering.TheVariants.{Greater}
use Rattle.sorted_arena.specs.{Chain.Entry, Chain.IsDistinct, Chain.item_of, Chain.without, Chain.last_pointer, Gap.first_of, Gap.last_of}
use Rattle.sorted_arena.proofs.{OrdLemmas.ends, CallerLemmas.next-here, CallerLemmas.prev-here, CallerLemmas.found-here, CallerLemmas.without-here}
use Rattle.sorted_arena.specs.Sorted.{pointer_of, key_of, first_where, next_of, prev_of, AreSorted}
use Rattle.timeline.specs.{Timeline.Change, Layout.change, Layout.last_value, Layout.IsAround, Layout.IsAt}

-- a pointer read as itself
pub unmapped : (o : Option (ℕ × ℕ)) → option_map (λ p. p) o ≡ o
unmapped None = refl
unmapped (Some p) = refl

-- an entry of a timeline's arena
abbrev pub Item : Type 0 → Type 0
Item V = Entry (ℕ × Option V)

module _ {V : Type 0} where
  pub last-pointer : (es : List (Item V)) → last_pointer es ≡ option_map pointer_of (last_of None es)
  last-pointer [] = refl
  last-pointer (e ∷ []) = refl
  last-pointer (e ∷ f ∷ es) = last-pointer (f ∷ es)

  last-changed : (held : Option V) (o : Option (Item V)) (es : List (Item V)) → held ≡ option_and_then (λ (x : ℕ × Option V). x.1) (option_map (λ (e : Item V). e.item) o)
      → last_value held (map change es) ≡ option_and_then (λ (x : ℕ × Option V). x.1) (option_map (λ (e : Item V). e.item) (last_of o es))
  last-changed held o [] is = is
  last-changed held o (e ∷ es) is = last-changed e.item.1 (Some e) es refl

  module _ (es : List (Item V)) (distinct : IsDistinct es) where
    -- what the pointers beside a cut find
    pub first-found : (front back : List (Item V)) → es ≡ front ++ back → (o : Option (ℕ × ℕ)) → o ≡ option_map pointer_of (first_of back)
        → option_and_then (item_of es) o ≡ option_map (λ (e : Item V). e.item) (first_of back)
    first-found front [] cut o is = rw is refl
    first-found front (e ∷ back) cut o is = rw is (found-here es distinct front e back cut)

    pub last-found : (front back : List (Item V)) → es ≡ front ++ back → (o : Option (ℕ × ℕ)) → o ≡ option_map pointer_of (last_of None front)
        → option_and_then (item_of es) o ≡ option_map (λ (e : Item V). e.item) (last_of None front)
    last-found front back cut o is = go (last_of None front) refl
      where
        go : (l : Option (Item V)) → last_of None front ≡ l → option_and_then (item_of es) o ≡ option_map (λ (e : Item V). e.item) (last_of None front)
        go None none = rw (is, none) refl
        go (Some e) some =
            let low = ends front e some in
            let whole : es ≡ low.0 ++ e ∷ back = cut ∙ ap (λ (xs : List (Item V)). xs ++ back) low.1 ∙ append_assoc low.0 (e ∷ []) back in
            rw (is, some) (found-here es distinct low.0 e back whole)

    pub value-found : (front back : List (Item V)) → es ≡ front ++ back → (o : Option (ℕ × ℕ)) → o ≡ option_map pointer_of (last_of None front)
        → option_and_then (λ (x : ℕ × Option V). x.1) (option_and_then (item_of es) o) ≡ last_value None (map change front)
    value-found front back cut o is =
        ap (option_and_then (λ (x : ℕ × Option V). x.1)) (last-found front back cut o is) ∙ sym (last-changed None None front refl)

    module _ (p : ℕ × ℕ) (at : IsAt es p) where
      pub found-there : item_of es p ≡ Some at.entry.item
      found-there = ap (item_of es) at.named ∙ found-here es distinct at.front at.entry at.back at.cut

      pub without-there : without p.0 es ≡ at.front ++ at.back
      without-there = ap (λ (q : ℕ × ℕ). without q.0 es) at.named ∙ without-here es distinct at.front at.entry at.back at.cut

      pub next-there : next_of es p ≡ option_map pointer_of (first_of at.back)
      next-there = ap (next_of es) at.named ∙ next-here es distinct at.front at.entry at.back at.cut

      pub prev-there : prev_of es p ≡ option_map pointer_of (last_of None at.front)
      prev-there = ap (prev_of es) at.named ∙ prev-here es distinct at.front at.entry at.back at.cut

      -- the value before it
      pub value-there : (o : Option (ℕ × ℕ)) → option_map (λ q. q) o ≡ prev_of es p
          → option_and_then (λ (x : ℕ × Option V). x.1) (option_and_then (item_of es) o) ≡ last_value None (map change at.front)
      value-there o is = value-found at.front (at.entry ∷ at.back) at.cut o (sym (unmapped o) ∙ is ∙ prev-there)

      -- the entry directly behind it, and the one directly before it
      pub record NextAt (q : ℕ × ℕ) : Type 0 where
        pub entry : Item V
        pub back : List (Item V)
        pub here : at.back ≡ entry ∷ back
        pub found : item_of es q ≡ Some entry.item
        pub rest : without q.0 es ≡ at.front ++ at.entry ∷ back

      pub next-at : (q : ℕ × ℕ) → Some q ≡ next_of es p → NextAt q
      next-at q is = go at.back refl
        where
          go : (b : List (Item V)) → at.back ≡ b → NextAt q
          go [] none = absurd (let no : Some q ≡ None = is ∙ next-there ∙ ap (λ (xs : List (Item V)). option_map pointer_of (first_of xs)) none in cc)
          go (f ∷ back) some =
              let same : Some q ≡ Some (pointer_of f) = is ∙ next-there ∙ ap (λ (xs : List (Item V)). option_map pointer_of (first_of xs)) some in
              let named : q ≡ pointer_of f = cc in
              let cut : es ≡ (at.front ++ at.entry ∷ []) ++ f ∷ back = at.cut ∙ ap (λ (xs : List (Item V)). at.front ++ at.entry ∷ xs) some ∙ sym (append_assoc at.front (at.entry ∷ []) (f ∷ back)) in
              record {
                entry = f;
                back = back;
                here = some;
                found = ap (item_of es) named ∙ found-here es distinct (at.front ++ at.entry ∷ []) f back cut;
                rest = ap (λ (r : ℕ × ℕ). without r.0 es) named ∙ without-here es distinct (at.front ++ at.entry ∷ []) f back cut ∙ append_assoc at.front (at.entry ∷ []) back;
              }

      pub record PrevAt (q : ℕ × ℕ) : Type 0 where
        pub front : List (Item V)
        pub entry : Item V
        pub here : at.front ≡ front ++ entry ∷ []
        pub last : last_of None at.front ≡ Some entry
        pub found : item_of es q ≡ Some entry.item
        pub rest : without q.0 es ≡ front ++ at.entry ∷ at.back

      pub before-at : (q : ℕ × ℕ) → Some q ≡ prev_of es p → PrevAt q
      before-at q is = go (last_of None at.front) refl
        where
          go : (l : Option (Item V)) → last_of None at.front ≡ l → PrevAt q
          go None none = absurd (let no : Some q ≡ None = is ∙ prev-there ∙ ap (option_map pointer_of) none in cc)
          go (Some d) some =
              let same : Some q ≡ Some (pointer_of d) = is ∙ prev-there ∙ ap (option_map pointer_of) some in
              let named : q ≡ pointer_of d = cc in
              let low = ends at.front d some in
              let cut : es ≡ low.0 ++ d ∷ at.entry ∷ at.back = at.cut ∙ ap (λ (xs : List (Item V)). xs ++ at.entry ∷ at.back) low.1 ∙ append_assoc low.0 (d ∷ []) (at.entry ∷ at.back) in
              record {
                front = low.0;
                entry = d;
                here = low.1;
                last = some;
                found = ap (item_of es) named ∙ found-here es distinct low.0 d (at.entry ∷ at.back) cut;
                rest = ap (λ (r : ℕ × ℕ). without r.0 es) named ∙ without-here es distinct low.0 d (at.entry ∷ at.back) cut;
              }

  -- a list is cut behind a time by its first entry with a later one
  pub record IsSplit (t : ℕ) (es : List (Item V)) (o : Option (ℕ × ℕ)) : Type 0 where
    pub front : List (Item V)
    pub back : List (Item V)
    pub cut : es ≡ front ++ back
    pub until : AllByRecursion (λ (c : Change V). c.time ≤ t) (map change front)
    pub after : AllByRecursion (λ (c : Change V). t < c.time) (map change back)
    pub after_is : o ≡ option_map pointer_of (first_of back)

  later-all : (t s : ℕ) (es : List (Item V)) → t < s → AllByRecursion (λ (f : Item V). nat_cmp s (key_of f) ≢ Greater) es → AllByRecursion (λ (c : Change V). t < c.time) (map change es)
  later-all t s [] later all = tt
  later-all t s (e ∷ es) later all = (not-greater e.item.0 all.0, later-all t s es later all.1)
    where
      not-greater : (k : ℕ) → nat_cmp s k ≢ Greater → t < k
      not-greater k most = elim (leb_tells s k) [
        | inl h ↦ omega (arith, h.1, later)
        | inr h ↦ absurd (most (grind (arith, nat_tests, h.1)))
      ]

  pub split-at : (t : ℕ) (es : List (Item V)) → AreSorted nat_cmp es → (o : Option (ℕ × ℕ)) → o ≡ first_where (λ e. is_lt (nat_cmp t (key_of e))) es → IsSplit t es o
  split-at t [] sorted o is = record { front = []; back = []; cut = refl; until = tt; after = tt; after_is = is }
  split-at t (e ∷ es) sorted o is = elim (leb_tells e.item.0 t) [
    | inl h ↦
        let test : is_lt (nat_cmp t (key_of e)) ≡ false = not-less h.1 in
        let rest = split-at t es sorted.1 o (is ∙ rw test refl) in
        record { front = e ∷ rest.front; back = rest.back; cut = ap (λ (xs : List (Item V)). e ∷ xs) rest.cut; until = (h.1, rest.until); after = rest.after; after_is = rest.after_is }
    | inr h ↦
        let test : is_lt (nat_cmp t (key_of e)) ≡ true = less h.1 in
        record {
          front = [];
          back = e ∷ es;
          cut = refl;
          until = tt;
          after = (h.1, later-all t e.item.0 es h.1 (recursion_from_All (λ (f : Item V). nat_cmp e.item.0 (key_of f) ≢ Greater) es sorted.0));
          after_is = is ∙ rw test refl;
        }
  ]
    where
      not-less : e.item.0 ≤ t → is_lt (nat_cmp t e.item.0) ≡ false
      not-less early = grind (arith, nat_tests, early)

      less : t < e.item.0 → is_lt (nat_cmp t e.item.0) ≡ true
      less later = grind (arith, nat_tests, later)

  module _ (t : ℕ) (es : List (Item V)) (distinct : IsDistinct es) (before o : Option (ℕ × ℕ)) (s : IsSplit t es o) where
    around-split : before ≡ option_map pointer_of (last_of None s.front) → IsAround es t (before, o)
    around-split is = record { distinct = distinct; front = s.front; back = s.back; cut = s.cut; until = s.until; after = s.after; before_is = is; after_is = s.after_is }

  module _ (t : ℕ) (es : List (Item V)) (distinct : IsDistinct es) (sorted : AreSorted nat_cmp es) (before : Option (ℕ × ℕ)) where
    pub around-some : (p : ℕ × ℕ) → Some p ≡ first_where (λ e. is_lt (nat_cmp t (key_of e))) es → option_map (λ q. q) before ≡ prev_of es p → IsAround es t (before, Some p)
    around-some p is prev = go (split-at t es sorted (Some p) is)
      where
        go : IsSplit t es (Some p) → IsAround es t (before, Some p)
        go s = by s.back refl
          where
            by : (b : List (Item V)) → s.back ≡ b → IsAround es t (before, Some p)
            by [] none = absurd (let no : Some p ≡ None = s.after_is ∙ ap (λ (xs : List (Item V)). option_map pointer_of (first_of xs)) none in cc)
            by (e ∷ back) some =
                let same : Some p ≡ Some (pointer_of e) = s.after_is ∙ ap (λ (xs : List (Item V)). option_map pointer_of (first_of xs)) some in
                let named : p ≡ pointer_of e = cc in
                let cut : es ≡ s.front ++ e ∷ back = s.cut ∙ ap (λ (xs : List (Item V)). s.front ++ xs) some in
                around-split t es distinct before (Some p) s (sym (unmapped before) ∙ prev ∙ ap (prev_of es) named ∙ prev-here es distinct s.front e back cut)

    pub around-none : None ≡ first_where (λ e. is_lt (nat_cmp t (key_of e))) es → option_map (λ q. q) before ≡ last_pointer es → IsAround es t (before, None)
    around-none is last = go (split-at t es sorted None is)
      where
        go : IsSplit t es None → IsAround es t (before, None)
        go s = by s.back refl
          where
            by : (b : List (Item V)) → s.back ≡ b → IsAround es t (before, None)
            by (e ∷ back) some = absurd (let no : None ≡ Some (pointer_of e) = s.after_is ∙ ap (λ (xs : List (Item V)). option_map pointer_of (first_of xs)) some in cc)
            by [] none =
                let whole : es ≡ s.front = s.cut ∙ ap (λ (xs : List (Item V)). s.front ++ xs) none ∙ append-nil s.front in
                around-split t es distinct before None s (sym (unmapped before) ∙ last ∙ last-pointer es ∙ ap (λ (xs : List (Item V)). option_map pointer_of (last_of None xs)) whole)
