-- The neighbours of an entry: their pointers name entries, and their keys are in order.
use Rattle.std.proofs.Common.{◌≡◌, ◌≢◌, ℕ, List, [], ◌∷◌, ◌++◌, append_assoc, Option, Some, None, IsSome, IsSomeAnd, is_some, refl, sym, ap, subst, ◌∙◌}
use Rattle.std.proofs.lemmas.List.Elements.{recursion_from_All}
use Rattle.std.specs.{Option.option_map, declared.cmp.Ordering.Ordering, declared.cmp.Ordering.TheVariants.Greater}
use Rattle.listing.specs.{Chain.Entry, Chain.IsDistinct, Chain.item_of, Gap.first_of, Gap.last_of}
use Rattle.listing.proofs.OrdLemmas.{ends}
use Rattle.sorted_arena.specs.Find.{FindsNeighbour}
use Rattle.sorted_arena.specs.Sorted.{Sorted, key_of, pointer_of, next_of, prev_of, AreSorted, IsSound}
use Rattle.sorted_arena.proofs.Cutting.{some-same, CutAt, cut-at, next-here, prev-here, next-absent, prev-absent, found-here}

module _ {K V : Type 0} (cmp : K → K → Ordering) where
  -- two entries that stand one behind the other
  in-order : (front : List (Entry (K × V))) (e f : Entry (K × V)) (back : List (Entry (K × V))) → AreSorted cmp (front ++ e ∷ f ∷ back) → cmp (key_of e) (key_of f) ≢ Greater
  in-order [] e f back sorted = (recursion_from_All (λ x. cmp (key_of e) (key_of x) ≢ Greater) (f ∷ back) sorted.0).0
  in-order (x ∷ front) e f back sorted = in-order front e f back sorted.1

  module _ (es : List (Entry (K × V))) (distinct : IsDistinct es) (sorted : AreSorted cmp es) (p : ℕ × ℕ) where
    -- A neighbour's pointer names an entry, as the pointer itself does.
    pub record IsNextTo (q : ℕ × ℕ) (R : K → K → Type 0) : Type 0 where
      pub named : IsSome (item_of es q)
      pub ordered : IsSomeAnd (item_of es p) (λ x. IsSomeAnd (item_of es q) (λ y. R x.0 y.0))

    there : (q : ℕ × ℕ) (e f : Entry (K × V)) (R : K → K → Type 0) → item_of es p ≡ Some e.item → item_of es q ≡ Some f.item → R (key_of e) (key_of f) → IsNextTo q R
    there q e f R own other holds = record {
      named = rw other refl;
      ordered = subst (λ (o : Option (K × V)). IsSomeAnd o (λ x. IsSomeAnd (item_of es q) (λ y. R x.0 y.0))) (sym own)
          (subst (λ (o : Option (K × V)). IsSomeAnd o (λ y. R (key_of e) y.0)) (sym other) holds);
    }

    -- where p is stale, it has no neighbour
    pub next-stands : (q : ℕ × ℕ) → next_of es p ≡ Some q → IsNextTo q (λ k l. cmp k l ≢ Greater)
    next-stands q is = go (item_of es p) refl
      where
        go : (o : Option (K × V)) → item_of es p ≡ o → IsNextTo q (λ k l. cmp k l ≢ Greater)
        go None none = absurd (let lost = next-absent es p distinct none in cc)
        go (Some x) some = by (cut-at es distinct p (ap is_some some))
          where
            by : CutAt es p → IsNextTo q (λ k l. cmp k l ≢ Greater)
            by c = behind c.back refl
              where
                own : item_of es p ≡ Some c.entry.item
                own = subst (λ r. item_of es r ≡ Some c.entry.item) c.named (found-here es distinct c.front c.entry c.back c.cut)

                at : option_map pointer_of (first_of c.back) ≡ Some q
                at = sym (next-here es distinct c.front c.entry c.back c.cut) ∙ ap (next_of es) c.named ∙ is

                behind : (back : List (Entry (K × V))) → c.back ≡ back → IsNextTo q (λ k l. cmp k l ≢ Greater)
                behind [] nil = absurd (let none : option_map pointer_of (first_of c.back) ≡ None = ap (λ (xs : List (Entry (K × V))). option_map pointer_of (first_of xs)) nil in let both : Some q ≡ None = sym at ∙ none in cc)
                behind (f ∷ back) cons =
                    let cut : es ≡ c.front ++ c.entry ∷ f ∷ back = c.cut ∙ ap (λ (xs : List (Entry (K × V))). c.front ++ c.entry ∷ xs) cons in
                    let cut_behind : es ≡ (c.front ++ c.entry ∷ []) ++ f ∷ back = cut ∙ sym (append_assoc c.front (c.entry ∷ []) (f ∷ back)) in
                    let of : pointer_of f ≡ q = some-same (sym (ap (λ (xs : List (Entry (K × V))). option_map pointer_of (first_of xs)) cons) ∙ at) in
                    let other : item_of es q ≡ Some f.item = subst (λ r. item_of es r ≡ Some f.item) of (found-here es distinct (c.front ++ c.entry ∷ []) f back cut_behind) in
                    there q c.entry f (λ k l. cmp k l ≢ Greater) own other (in-order c.front c.entry f back (subst (AreSorted cmp) cut sorted))

    pub prev-stands : (q : ℕ × ℕ) → prev_of es p ≡ Some q → IsNextTo q (λ k l. cmp l k ≢ Greater)
    prev-stands q is = go (item_of es p) refl
      where
        go : (o : Option (K × V)) → item_of es p ≡ o → IsNextTo q (λ k l. cmp l k ≢ Greater)
        go None none = absurd (let lost = prev-absent None es p distinct none in cc)
        go (Some x) some = by (cut-at es distinct p (ap is_some some))
          where
            by : CutAt es p → IsNextTo q (λ k l. cmp l k ≢ Greater)
            by c = before (last_of None c.front) refl
              where
                own : item_of es p ≡ Some c.entry.item
                own = subst (λ r. item_of es r ≡ Some c.entry.item) c.named (found-here es distinct c.front c.entry c.back c.cut)

                at : option_map pointer_of (last_of None c.front) ≡ Some q
                at = sym (prev-here es distinct c.front c.entry c.back c.cut) ∙ ap (prev_of es) c.named ∙ is

                before : (o : Option (Entry (K × V))) → last_of None c.front ≡ o → IsNextTo q (λ k l. cmp l k ≢ Greater)
                before None none = absurd (let lost : option_map pointer_of (last_of None c.front) ≡ None = ap (option_map pointer_of) none in let both : Some q ≡ None = sym at ∙ lost in cc)
                before (Some d) last =
                    let low = ends c.front d last in
                    let cut : es ≡ low.0 ++ d ∷ c.entry ∷ c.back = c.cut ∙ ap (λ (xs : List (Entry (K × V))). xs ++ c.entry ∷ c.back) low.1 ∙ append_assoc low.0 (d ∷ []) (c.entry ∷ c.back) in
                    let of : pointer_of d ≡ q = some-same (sym (ap (option_map pointer_of) last) ∙ at) in
                    let other : item_of es q ≡ Some d.item = subst (λ r. item_of es r ≡ Some d.item) of (found-here es distinct low.0 d (c.entry ∷ c.back) cut) in
                    there q c.entry d (λ k l. cmp l k ≢ Greater) own other (in-order low.0 d c.entry c.back (subst (AreSorted cmp) cut sorted))

  -- what the calls for a neighbour promise
  module _ (most : ℕ) (a : Sorted K V) (sound : IsSound cmp most a) (p : ℕ × ℕ) {P : Type 0} (numbers : P → ℕ × ℕ) where
    pub next-found : (o : Option P) → option_map numbers o ≡ next_of a.entries p → FindsNeighbour cmp most numbers a o (λ k l. cmp k l ≢ Greater) (next_of a.entries p) p
    next-found None is = record { value = is; named = tt; in_order = tt; sound = sound }
    next-found (Some q) is =
        let next = next-stands a.entries sound.distinct sound.sorted p (numbers q) (sym is) in
        record { value = is; named = next.named; in_order = next.ordered; sound = sound }

    pub prev-found : (o : Option P) → option_map numbers o ≡ prev_of a.entries p → FindsNeighbour cmp most numbers a o (λ k l. cmp l k ≢ Greater) (prev_of a.entries p) p
    prev-found None is = record { value = is; named = tt; in_order = tt; sound = sound }
    prev-found (Some q) is =
        let prev = prev-stands a.entries sound.distinct sound.sorted p (numbers q) (sym is) in
        record { value = is; named = prev.named; in_order = prev.ordered; sound = sound }
