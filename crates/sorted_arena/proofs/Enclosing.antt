-- Which of two entries of a list comes first, and the entries between them.
use Rattle.std.proofs.Common.{◌≡◌, ◌≢◌, ◌≤◌, ◌<◌, ◌+◌, ℕ, length, true, false, Bool, not, ◌&&◌, filter, ◌==◌, List, [], ◌∷◌, ◌++◌, append_assoc, Option, Some, None, IfSome, is_some, inl, inr, refl, sym, ap, subst, ◌∙◌, arith}
use Rattle.std.proofs.lemmas.{Grind.common_steps, List.append-nil, Bool.Decides.eqb_tells, List.Elements.recursion_from_All}
use Rattle.std.specs.{List.AllByRecursion, Option.option_map, Cmp.IsTotalOrder, Ordering.is_eq, Ordering.is_ge, Ordering.is_gt, Ordering.is_le, Ordering.is_lt, Ordering.ordering_index, Ordering.ordering_reverse}
use Rattle.std.specs.declared.cmp.Ordering.{Ordering, TheVariants.Less, TheVariants.Equal, TheVariants.Greater}
use Rattle.std.specs.declared.ops.Bound.TheVariants.{Included}
use Rattle.listing.specs.{Chain.Entry, Chain.IsDistinct, Chain.item_of, Chain.entry_at, Chain.times, Chain.from_index, Gap.first_of, PlainArena.item_if}
use Rattle.listing.proofs.{OrdLemmas.from_index-here, OrdLemmas.entry_at-here, OrdLemmas.not_before, OrdLemmas.recursion-map, ChainLemmas.times-append, CallerLemmas.distinct-rest}
use Rattle.sorted_arena.specs.{Range.up_to_index, Range.entries_from_to, Range.entries_between, Stretch.has_index, Stretch.are_in_order, Stretch.stretch, Stretch.first_index, Stretch.IsStretch, Met.Rises}
use Rattle.sorted_arena.specs.Sorted.{Sorted, key_of, pointer_of, next_of, first_where, AreSorted}
use Rattle.sorted_arena.proofs.{Cutting.some-same, Cutting.index-pointer, Cutting.next-here, Stretching.stretch-middle, Stretching.tail-stretch, Stretching.from-there, Ranging.first_passing, Ranging.Stays, Ranging.Split, Ranging.split, Ranging.inside}

-- the index of a pointer, if there is one
abbrev index_of : Option (ℕ × ℕ) → Option ℕ
index_of o = option_map (λ p. p.0) o

module _ {T : Type 0} where
  -- an entry that is named has its index
  pub named-there : (es : List (Entry T)) (p : ℕ × ℕ) → is_some (item_of es p) ≡ true → has_index p.0 es ≡ true
  named-there [] p some = absurd (cc)
  named-there (e ∷ es) p some = elim (eqb_tells e.index p.0) [
    | inl h ↦ rw (h.0) refl
    | inr h ↦ rw (h.0) (named-there es p (rw (h.0) at some))
  ]

  -- from an entry on there is the entry itself
  pub own-comes : (es : List (Entry T)) (p : ℕ × ℕ) → is_some (item_of es p) ≡ true → has_index p.0 (from_index es p.0) ≡ true
  own-comes [] p some = absurd (cc)
  own-comes (e ∷ es) p some = elim (eqb_tells e.index p.0) [
    | inl h ↦ rw (h.0) (rw (h.0) refl)
    | inr h ↦ rw (h.0) (own-comes es p (rw (h.0) at some))
  ]

  pub without-index : (es : List (Entry T)) (j : ℕ) → times j es ≡ 0 → has_index j es ≡ false
  without-index [] j none = refl
  without-index (e ∷ es) j none = grind (arith, common_steps, without-index es j)

  from-without : (es : List (Entry T)) (i j : ℕ) → times j es ≡ 0 → has_index j (from_index es i) ≡ false
  from-without [] i j none = refl
  from-without (e ∷ es) i j none = elim (eqb_tells e.index i) [
    | inl h ↦ rw (h.0) (without-index (e ∷ es) j none)
    | inr h ↦ rw (h.0) (from-without es i j (grind (arith, common_steps)))
  ]

  -- a list is cut at an entry with an index that it has
  pub record IsCutThere (es : List (Entry T)) (j : ℕ) : Type 0 where
    pub front : List (Entry T)
    pub entry : Entry T
    pub back : List (Entry T)
    pub cut : es ≡ front ++ entry ∷ back
    pub is : entry.index ≡ j

  pub cut-there : (es : List (Entry T)) (j : ℕ) → has_index j es ≡ true → IsCutThere es j
  cut-there [] j has = absurd (cc)
  cut-there (e ∷ es) j has = elim (eqb_tells e.index j) [
    | inl h ↦ record { front = []; entry = e; back = es; cut = refl; is = h.1 }
    | inr h ↦ let rest = cut-there es j (rw (h.0) at has) in
        record { front = e ∷ rest.front; entry = rest.entry; back = rest.back; cut = ap (λ (xs : List (Entry T)). e ∷ xs) rest.cut; is = rest.is }
  ]

  -- from an entry on to a later one, and the same entries the other way round
  from-up-to : (es : List (Entry T)) (i j : ℕ) → IsDistinct es → has_index j (from_index es i) ≡ true → from_index (up_to_index j es) i ≡ up_to_index j (from_index es i)
  from-up-to [] i j distinct has = refl
  from-up-to (e ∷ es) i j distinct has = elim (eqb_tells e.index i) [
    | inl h ↦ elim (eqb_tells e.index j) [
      | inl k ↦ rw (h.0, k.0, h.0) refl
      | inr k ↦ rw (h.0, k.0, h.0) refl
    ]
    | inr h ↦ elim (eqb_tells e.index j) [
      | inl k ↦
          let none : times j es ≡ 0 = omega (arith, distinct j, (let here : times j (e ∷ es) ≡ 1 + times j es = rw (k.0) refl in here)) in
          absurd (let both : has_index j (from_index es i) ≡ true = rw (h.0) at has in let other = from-without es i j none in cc)
      | inr k ↦ rw (h.0, k.0, h.0) (from-up-to es i j (distinct-rest e es distinct) (rw (h.0) at has))
    ]
  ]

  -- there is nothing from an entry on to an earlier one
  pub from-behind : (es : List (Entry T)) (i j : ℕ) → has_index j es ≡ true → has_index j (from_index es i) ≡ false → from_index (up_to_index j es) i ≡ []
  from-behind [] i j there not = absurd (cc)
  from-behind (e ∷ es) i j there not = elim (eqb_tells e.index i) [
    | inl h ↦ absurd (let none : has_index j (e ∷ es) ≡ false = rw (h.0) at not in cc)
    | inr h ↦ elim (eqb_tells e.index j) [
      | inl k ↦ rw (k.0, h.0) refl
      | inr k ↦ rw (k.0, h.0) (from-behind es i j (rw (k.0) at there) (rw (h.0) at not))
    ]
  ]

  up-to-cut : (front : List (Entry T)) (e : Entry T) (back : List (Entry T)) → times e.index front ≡ 0 → up_to_index e.index (front ++ e ∷ back) ≡ front ++ e ∷ []
  up-to-cut [] e back none = grind (arith, common_steps)
  up-to-cut (f ∷ front) e back none = grind (arith, common_steps, up-to-cut front e back)

  -- an entry that is named has its generation
  generation-named : (g h : ℕ) (x : T) → is_some (item_if g (Some (h, x))) ≡ true → h ≡ g
  generation-named g h x some = elim (eqb_tells h g) [
    | inl k ↦ k.1
    | inr k ↦ absurd (let both : false ≡ true = rw (k.0) at some in cc)
  ]

  -- a list is cut at the entry of a pointer
  pub cut-named : (es : List (Entry T)) (p : ℕ × ℕ) → is_some (item_of es p) ≡ true → IsCutThere es p.0
  cut-named es p some = cut-there es p.0 (named-there es p some)

module _ {K V : Type 0} (es : List (Entry (K × V))) (distinct : IsDistinct es) where
  -- a cut at the entry of a pointer
  pub pointer-cut : (p : ℕ × ℕ) → is_some (item_of es p) ≡ true → (front : List (Entry (K × V))) (e : Entry (K × V)) (back : List (Entry (K × V))) → es ≡ front ++ e ∷ back → e.index ≡ p.0 → pointer_of e ≡ p
  pointer-cut p some front e back cut is =
      let there : entry_at es p.0 ≡ Some (e.generation, e.item) = subst (λ (i : ℕ). entry_at es i ≡ Some (e.generation, e.item)) is (entry_at-here es distinct front e back cut) in
      let same : e.generation ≡ p.1 = generation-named p.1 e.generation e.item (subst (λ (o : Option (ℕ × (K × V))). is_some (item_if p.1 o) ≡ true) there some) in
      ap (λ (i : ℕ). (i, e.generation)) is ∙ ap (λ (g : ℕ). (p.0, g)) same

  -- from an entry on to another that isn't before it
  pub in-order-stretch : (first end : Option (ℕ × ℕ)) → IfSome first (λ p. is_some (item_of es p) ≡ true) → are_in_order (index_of first) (index_of end) es ≡ true → IsStretch es (index_of first) (index_of end)
  in-order-stretch None None there ordered = record { distinct = distinct; front = es; middle = []; back = []; cut = sym (append-nil es); begins = refl; ends = refl }
  in-order-stretch (Some p) None there ordered = tail-stretch es p distinct there
  in-order-stretch None (Some q) there ordered = absurd (cc)
  in-order-stretch (Some p) (Some q) there ordered =
      let from = from-there es p.0 p.1 there in
      let c = cut-there (from_index es p.0) q.0 ordered in
      record {
        distinct = distinct;
        front = from.front;
        middle = c.front;
        back = c.entry ∷ c.back;
        cut = from.cut ∙ ap (λ (zs : List (Entry (K × V))). from.front ++ zs) c.cut;
        begins = ap first_index (sym c.cut) ∙ from.begins;
        ends = ap (λ (i : ℕ). Some i) c.is;
      }

  module _ (p q : ℕ × ℕ) (first : is_some (item_of es p) ≡ true) (last : is_some (item_of es q) ≡ true) where
    -- from an entry on to another that is included
    pub record UpTo : Type 0 where
      pub stands : IsStretch es (Some p.0) (index_of (next_of es q))
      pub gives : stretch es (Some p.0) (index_of (next_of es q)) ≡ entries_from_to p.0 q.0 es

    pub up-to : has_index q.0 (from_index es p.0) ≡ true → UpTo
    up-to has =
        let from = from-there es p.0 p.1 first in
        let c = cut-there (from_index es p.0) q.0 has in
        let whole : es ≡ (from.front ++ c.front) ++ c.entry ∷ c.back =
        from.cut ∙ ap (λ (zs : List (Entry (K × V))). from.front ++ zs) c.cut ∙ sym (append_assoc from.front c.front (c.entry ∷ c.back)) in
        let named : pointer_of c.entry ≡ q = pointer-cut q last (from.front ++ c.front) c.entry c.back whole c.is in
        let next : next_of es q ≡ option_map pointer_of (first_of c.back) = ap (next_of es) (sym named) ∙ next-here es distinct (from.front ++ c.front) c.entry c.back whole in
        let joined : (c.front ++ c.entry ∷ []) ++ c.back ≡ from_index es p.0 = append_assoc c.front (c.entry ∷ []) c.back ∙ sym c.cut in
        let none : times c.entry.index c.front ≡ 0 = omega (arith, not_before es distinct (from.front ++ c.front) c.entry c.back whole, times-append c.entry.index from.front c.front) in
        let stands : IsStretch es (Some p.0) (index_of (next_of es q)) = record {
          distinct = distinct;
          front = from.front;
          middle = c.front ++ c.entry ∷ [];
          back = c.back;
          cut = from.cut ∙ ap (λ (zs : List (Entry (K × V))). from.front ++ zs) (sym joined);
          begins = ap first_index joined ∙ from.begins;
          ends = index-first (first_of c.back) ∙ ap index_of (sym next);
        } in
        record {
          stands = stands;
          gives = stretch-middle es (Some p.0) (index_of (next_of es q)) stands ∙ sym (up-to-cut c.front c.entry c.back none)
              ∙ ap (λ (j : ℕ). up_to_index j (c.front ++ c.entry ∷ c.back)) c.is ∙ ap (up_to_index q.0) (sym c.cut) ∙ sym (from-up-to es p.0 q.0 distinct has);
        }
      where
        index-first : (o : Option (Entry (K × V))) → option_map (λ e. e.index) o ≡ option_map (λ p. p.0) (option_map pointer_of o)
        index-first None = refl
        index-first (Some e) = refl

  -- what stands from an entry on, but for the entry itself, stands from the next one on
  module _ (p : ℕ × ℕ) (some : is_some (item_of es p) ≡ true) where
    pub record Goes : Type 0 where
      pub comes : (j : ℕ) → p.0 ≢ j → has_index j (from_index es p.0) ≡ are_in_order (index_of (next_of es p)) (Some j) es
      pub fewer : length (stretch es (index_of (next_of es p)) None) < length (stretch es (Some p.0) None)

    pub goes : Goes
    goes = go (cut-named es p some).back refl
      where
        c : IsCutThere es p.0
        c = cut-named es p some

        named : pointer_of c.entry ≡ p
        named = pointer-cut p some c.front c.entry c.back c.cut c.is

        here : from_index es p.0 ≡ c.entry ∷ c.back
        here = ap (from_index es) (sym c.is) ∙ from_index-here es distinct c.front c.entry c.back c.cut

        next : next_of es p ≡ option_map pointer_of (first_of c.back)
        next = ap (next_of es) (sym named) ∙ next-here es distinct c.front c.entry c.back c.cut

        skips : (j : ℕ) → p.0 ≢ j → has_index j (from_index es p.0) ≡ has_index j c.back
        skips j apart = elim (eqb_tells c.entry.index j) [
          | inl h ↦ absurd (apart (sym c.is ∙ h.1))
          | inr h ↦ rw here (rw (h.0) refl)
        ]

        go : (back : List (Entry (K × V))) → c.back ≡ back → Goes
        go [] is =
            let none : next_of es p ≡ None = next ∙ ap (λ (xs : List (Entry (K × V))). option_map pointer_of (first_of xs)) is in
            record { comes = λ j apart. skips j apart ∙ rw (is, none) refl; fewer = rw (none, here) (omega arith) }
        go (f ∷ back) is =
            let some_next : next_of es p ≡ Some (pointer_of f) = next ∙ ap (λ (xs : List (Entry (K × V))). option_map pointer_of (first_of xs)) is in
            let cut : es ≡ (c.front ++ c.entry ∷ []) ++ f ∷ back = c.cut ∙ ap (λ (xs : List (Entry (K × V))). c.front ++ c.entry ∷ xs) is ∙ sym (append_assoc c.front (c.entry ∷ []) (f ∷ back)) in
            let there : from_index es f.index ≡ f ∷ back = from_index-here es distinct (c.front ++ c.entry ∷ []) f back cut in
            record { comes = λ j apart. skips j apart ∙ rw (some_next, there, is) refl; fewer = rw (some_next, there, here, is) (omega arith) }

-- answers of a closure that don't fall
ge-stays : (o p : Ordering) → is_ge o ≡ true → ordering_index o ≤ ordering_index p → is_ge p ≡ true
ge-stays Less p is up = absurd (cc)
ge-stays Equal Less is up = absurd (omega (arith, up))
ge-stays Equal Equal is up = refl
ge-stays Equal Greater is up = refl
ge-stays Greater Less is up = absurd (omega (arith, up))
ge-stays Greater Equal is up = refl
ge-stays Greater Greater is up = refl

gt-stays : (o p : Ordering) → is_gt o ≡ true → ordering_index o ≤ ordering_index p → is_gt p ≡ true
gt-stays Less p is up = absurd (cc)
gt-stays Equal p is up = absurd (cc)
gt-stays Greater Less is up = absurd (omega (arith, up))
gt-stays Greater Equal is up = absurd (omega (arith, up))
gt-stays Greater Greater is up = refl

module _ {K V : Type 0} where
  -- the item of the first entry, by its index
  item-here : (e : Entry (K × V)) (es : List (Entry (K × V))) (p : ℕ × ℕ) (x : K × V) → (e.index == p.0) ≡ true → Some x ≡ item_of (e ∷ es) p → x ≡ e.item
  item-here e es p x at is = elim (eqb_tells e.generation p.1) [
    | inl k ↦ some-same (rw (at, k.0) at is)
    | inr k ↦ absurd (let none : Some x ≡ None = rw (at, k.0) at is in cc)
  ]

  -- what is true of each key is true of that of an entry that is named
  key-holds : (R : K → Type 0) (es : List (Entry (K × V))) (p : ℕ × ℕ) (x : K × V) → AllByRecursion (λ e. R (key_of e)) es → Some x ≡ item_of es p → R x.0
  key-holds R [] p x all is = absurd (cc)
  key-holds R (e ∷ es) p x all is = elim (eqb_tells e.index p.0) [
    | inl h ↦ subst (λ (y : K × V). R y.0) (sym (item-here e es p x h.0 is)) all.0
    | inr h ↦ key-holds R es p x all.1 (rw (h.0) at is)
  ]

  some-named : (es : List (Entry (K × V))) (p : ℕ × ℕ) (x : K × V) → Some x ≡ item_of es p → is_some (item_of es p) ≡ true
  some-named es p x is = rw (← is) refl

  module _ (cmp : K → K → Ordering) (total : IsTotalOrder cmp) where
    -- an entry with a greater key comes behind
    pub less-comes : (es : List (Entry (K × V))) → AreSorted cmp es → (p q : ℕ × ℕ) (x y : K × V) → Some x ≡ item_of es p → Some y ≡ item_of es q → cmp x.0 y.0 ≡ Less → has_index q.0 (from_index es p.0) ≡ true
    less-comes [] sorted p q x y at to less = absurd (cc)
    less-comes (e ∷ es) sorted p q x y at to less = elim (eqb_tells e.index p.0) [
      | inl h ↦ rw (h.0) (named-there (e ∷ es) q (some-named (e ∷ es) q y to))
      | inr h ↦ elim (eqb_tells e.index q.0) [
        | inl k ↦
            let most : cmp (key_of e) x.0 ≢ Greater = key-holds (λ (z : K). cmp (key_of e) z ≢ Greater) es p x (recursion_from_All _ es sorted.0) (rw (h.0) at at) in
            let greater : cmp (key_of e) x.0 ≡ Greater = ap (λ (z : K × V). cmp z.0 x.0) (sym (item-here e es q y k.0 to)) ∙ total.antisymm y.0 x.0 ∙ ap ordering_reverse less in
            absurd (most greater)
        | inr k ↦ rw (h.0) (less-comes es sorted.1 p q x y (rw (h.0) at at) (rw (k.0) at to) less)
      ]
    ]

    -- an entry with a smaller key doesn't
    pub greater-comes : (es : List (Entry (K × V))) → IsDistinct es → AreSorted cmp es → (p q : ℕ × ℕ) (x y : K × V) → Some x ≡ item_of es p → Some y ≡ item_of es q → cmp x.0 y.0 ≡ Greater
        → has_index q.0 (from_index es p.0) ≡ false
    greater-comes [] distinct sorted p q x y at to greater = absurd (cc)
    greater-comes (e ∷ es) distinct sorted p q x y at to greater = elim (eqb_tells e.index p.0) [
      | inl h ↦
          let own : x ≡ e.item = item-here e es p x h.0 at in
          elim (eqb_tells e.index q.0) [
            | inl k ↦
                let same : cmp x.0 x.0 ≡ Greater = ap (λ (z : K × V). cmp x.0 z.0) (own ∙ sym (item-here e es q y k.0 to)) ∙ greater in
                let other : cmp x.0 x.0 ≡ Less = total.antisymm x.0 x.0 ∙ ap ordering_reverse same in
                absurd (cc)
            | inr k ↦
                let most : cmp (key_of e) y.0 ≢ Greater = key-holds (λ (z : K). cmp (key_of e) z ≢ Greater) es q y (recursion_from_All _ es sorted.0) (rw (k.0) at to) in
                absurd (most (ap (λ (z : K × V). cmp z.0 y.0) (sym own) ∙ greater))
          ]
      | inr h ↦ elim (eqb_tells e.index q.0) [
        | inl k ↦
            let here : times q.0 (e ∷ es) ≡ 1 + times q.0 es = rw (k.0) refl in
            rw (h.0) (from-without es p.0 q.0 (omega (arith, distinct q.0, here)))
        | inr k ↦ rw (h.0) (greater-comes es (distinct-rest e es distinct) sorted.1 p q x y (rw (h.0) at at) (rw (k.0) at to) greater)
      ]
    ]

    -- the same by the keys that are read at two pointers
    module _ (es : List (Entry (K × V))) (distinct : IsDistinct es) (sorted : AreSorted cmp es) (p q : ℕ × ℕ) (k l : K) (at : Some k ≡ option_map (λ e. e.0) (item_of es p))
        (to : Some l ≡ option_map (λ e. e.0) (item_of es q)) where
      read : (o : Option (K × V)) (j : K) → Some j ≡ option_map (λ e. e.0) o → (x : K × V) × (Some x ≡ o) × (x.0 ≡ j)
      read None j is = absurd (cc)
      read (Some x) j is = (x, refl, (let same : j ≡ x.0 = some-same is in sym same))

      own : (x : K × V) × (Some x ≡ item_of es p) × (x.0 ≡ k)
      own = read (item_of es p) k at

      other : (x : K × V) × (Some x ≡ item_of es q) × (x.0 ≡ l)
      other = read (item_of es q) l to

      compared : cmp own.0.0 other.0.0 ≡ cmp k l
      compared = ap (λ (j : K). cmp j other.0.0) own.2 ∙ ap (cmp k) other.2

      pub less-key-comes : cmp k l ≡ Less → has_index q.0 (from_index es p.0) ≡ true
      less-key-comes less = less-comes es sorted p q own.0 other.0 own.1 other.1 (compared ∙ less)

      pub greater-key-comes : cmp k l ≡ Greater → has_index q.0 (from_index es p.0) ≡ false
      greater-key-comes greater = greater-comes es distinct sorted p q own.0 other.0 own.1 other.1 (compared ∙ greater)

  -- Entries of which a closure tells first that they are before what is sought, then that they are in it, and then that they are behind it.
  module _ (order : K → Ordering) where
    abbrev begun : Entry (K × V) → Bool
    begun e = is_ge (order (key_of e))

    abbrev passed : Entry (K × V) → Bool
    passed e = is_gt (order (key_of e))

    begun-stays : (es : List (Entry (K × V))) → Rises (λ e. ordering_index (order (key_of e))) es → Stays begun es
    begun-stays [] up = tt
    begun-stays (e ∷ es) up = (
      (λ holds. recursion-map (λ f. ordering_index (order (key_of e)) ≤ ordering_index (order (key_of f))) (λ f. begun f ≡ true) (λ f rise. ge-stays (order (key_of e)) (order (key_of f)) holds rise) es up.0),
      begun-stays es up.1,
    )

    passed-stays : (es : List (Entry (K × V))) → Rises (λ e. ordering_index (order (key_of e))) es → Stays passed es
    passed-stays [] up = tt
    passed-stays (e ∷ es) up = (
      (λ holds. recursion-map (λ f. ordering_index (order (key_of e)) ≤ ordering_index (order (key_of f))) (λ f. passed f ≡ true) (λ f rise. gt-stays (order (key_of e)) (order (key_of f)) holds rise) es up.0),
      passed-stays es up.1,
    )

    ahead : (es : List (Entry (K × V))) → IfSome (first_passing passed es) (λ f. begun f ≡ true)
    ahead [] = tt
    ahead (e ∷ es) = go (order (key_of e)) refl (ahead es)
      where
        go : (o : Ordering) → order (key_of e) ≡ o → IfSome (first_passing passed es) (λ f. begun f ≡ true) → IfSome (first_passing passed (e ∷ es)) (λ f. begun f ≡ true)
        go Less is rest = rw is rest
        go Equal is rest = rw is rest
        go Greater is rest = rw is (rw is refl)

    equal-inside : (es : List (Entry (K × V))) → inside begun passed es ≡ filter (λ e. is_eq (order (key_of e))) es
    equal-inside [] = refl
    equal-inside (e ∷ es) = grind (arith, common_steps, test (order (key_of e)), equal-inside es)
      where
        test : (o : Ordering) → (is_ge o && not (is_gt o)) ≡ is_eq o
        test Less = refl
        test Equal = refl
        test Greater = refl

    has-among : (front : List (Entry (K × V))) (f : Entry (K × V)) (back : List (Entry (K × V))) → has_index f.index (front ++ f ∷ back) ≡ true
    has-among [] f back = grind (arith, common_steps)
    has-among (e ∷ front) f back = grind (arith, common_steps, has-among front f back)

    module _ (es : List (Entry (K × V))) (distinct : IsDistinct es) (up : Rises (λ e. ordering_index (order (key_of e))) es) (first end : Option (ℕ × ℕ))
        (first_is : first ≡ first_where begun es) (end_is : end ≡ first_where passed es) where
      s : Split begun passed es
      s = split begun passed es (begun-stays es up) (passed-stays es up) (ahead es)

      stands : IsStretch es (index_of first) (index_of end)
      stands = record {
        distinct = distinct;
        front = s.front;
        middle = s.middle;
        back = s.back;
        cut = s.cut;
        begins = index-pointer (first_of (s.middle ++ s.back)) ∙ sym (ap index_of (first_is ∙ s.first));
        ends = index-pointer (first_of s.back) ∙ sym (ap index_of (end_is ∙ s.past));
      }

      pub equal-gives : stretch es (index_of first) (index_of end) ≡ filter (λ e. is_eq (order (key_of e))) es
      unfolding s stands
      equal-gives = stretch-middle es (index_of first) (index_of end) stands ∙ sym s.is ∙ equal-inside es

      pub equal-ordered : are_in_order (index_of first) (index_of end) es ≡ true
      equal-ordered = go s.middle s.back s.cut (first_is ∙ s.first) (end_is ∙ s.past)
        where
          no_end : (o : Option ℕ) → are_in_order o None es ≡ true
          no_end None = refl
          no_end (Some i) = refl

          go : (middle back : List (Entry (K × V))) → es ≡ s.front ++ (middle ++ back) → first ≡ option_map pointer_of (first_of (middle ++ back)) → end ≡ option_map pointer_of (first_of back)
              → are_in_order (index_of first) (index_of end) es ≡ true
          go middle [] cut from to = rw to (no_end (index_of first))
          go [] (f ∷ back) cut from to = rw (from, to) (rw (from_index-here es distinct s.front f back cut) (has-among [] f back))
          go (e ∷ middle) (f ∷ back) cut from to = rw (from, to) (rw (from_index-here es distinct s.front e (middle ++ f ∷ back) cut) (has-among (e ∷ middle) f back))

  -- what is found in the list of one arena is found in that of an equal one
  pub seen : {P : Type 0} (numbers : P → ℕ × ℕ) (r : Option P) (n : Entry (K × V) → ℕ) (test : Entry (K × V) → Bool) (a b : Sorted K V) → a ≡ b
      → (IsDistinct b.entries → Rises n b.entries → option_map numbers r ≡ first_where test b.entries) → IsDistinct a.entries → Rises n a.entries → option_map numbers r ≡ first_where test a.entries
  seen numbers r n test a b same found distinct rising =
      subst (λ (x : Sorted K V). option_map numbers r ≡ first_where test x.entries) (sym same)
      (found (subst (λ (x : Sorted K V). IsDistinct x.entries) same distinct) (subst (λ (x : Sorted K V). Rises n x.entries) same rising))

  -- the entries with a key that equals another, by the order of either to the other
  pub equal-between : (cmp : K → K → Ordering) (total : IsTotalOrder cmp) (k : K) (es : List (Entry (K × V))) → filter (λ e. is_eq (cmp (key_of e) k)) es ≡ entries_between cmp (Included k) (Included k) es
  equal-between cmp total k [] = refl
  equal-between cmp total k (e ∷ es) = grind (arith, common_steps, test, equal-between cmp total k es)
    where
      turned : (o : Ordering) → is_eq o ≡ (is_le (ordering_reverse o) && not (is_lt (ordering_reverse o)))
      turned Less = refl
      turned Equal = refl
      turned Greater = refl

      test : is_eq (cmp (key_of e) k) ≡ (is_le (cmp k (key_of e)) && not (is_lt (cmp k (key_of e))))
      test = turned (cmp (key_of e) k) ∙ ap (λ (o : Ordering). is_le o && not (is_lt o)) (sym (total.antisymm k (key_of e)))
