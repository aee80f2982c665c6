-- Entries that come into a sorted arena from elsewhere: what becomes of the keys and values, and of the pointers.
use Rattle.std.proofs.Common.{◌≡◌, ◌≢◌, ◌⊎◌, inl, inr, ℕ, Bool, true, false, if◌then◌else◌, map, List, [], ◌∷◌, ◌++◌, Option, Some, None, IsSome, is_some, refl, sym, ap, subst, ◌∙◌}
use Rattle.std.proofs.lemmas.Bool.{cases_eq}
use Rattle.std.proofs.{lemmas.List.map-append, lemmas.List.Elements.recursion_from_All, lemmas.List.Elements.All-from_recursion}
use Rattle.std.specs.{List.AllByRecursion, Ordering.is_lt, Ordering.ordering_reverse, Cmp.IsTotalOrder}
use Rattle.std.specs.declared.cmp.Ordering.{Ordering, TheVariants.Less, TheVariants.Equal, TheVariants.Greater}
use Rattle.listing.specs.Chain.{Entry}
use Rattle.listing.proofs.ChainLemmas.{entry_at-absent}
use Rattle.listing.specs.{Listing.entry_of, Listing.put_behind, Steps.IsStep}
use Rattle.listing.proofs.CallerLemmas.{entry-updates}
use Rattle.sorted_arena.proofs.Elements.{all-front, all-at}
use Rattle.sorted_arena.specs.Merge.{with_item, merged}
use Rattle.sorted_arena.specs.Sorted.{Sorted, key_of, pair_of, get, first_item, behind_first, AreSorted, IsFree, with_entry, Keeps, Updates}

module _ {K V : Type 0} where
  pub keeps-all : (a : Sorted K V) → Keeps a a
  keeps-all a = λ q there. refl

  -- one more entry, under a pointer that was free
  module _ (cmp : K → K → Ordering) (most : ℕ) (old now new : Sorted K V) (p : ℕ × ℕ) (x : K × V) (free : IsFree now p) (is : new ≡ with_entry cmp most now p x) where
    updates : Updates now new p (Some x)
    updates = rw is (entry-updates cmp most now p x free)

    unused : get now p ≡ None
    unused = rw (entry_at-absent now.entries p.0 free.unused) refl

    pub keeps-more : Keeps old now → Keeps old new
    keeps-more keeps = λ q there.
        let still : get now q ≡ get old q = keeps q there in
        let named : IsSome (get now q) = subst (λ (o : Option (K × V)). IsSome o) (sym still) there in
        updates.others q (λ same. let lost : IsSome {T = K × V} None = subst (λ (o : Option (K × V)). IsSome o) (ap (get now) same ∙ unused) named in absurd (cc)) ∙ still

    pub steps-more : now.generation ≡ old.generation → IsStep old now → IsStep old new
    steps-more generation step = record { comes = λ q none there. go q none there (cases_eq q.0 p.0) (cases_eq q.1 p.1) }
      where
        other : (q : ℕ × ℕ) → get old q ≡ None → IsSome (get new q) → q ≢ p → (q.1 ≡ old.generation) ⊎ (q.1 ≡ new.generation)
        other q none there apart = elim (step.comes q none (subst (λ (o : Option (K × V)). IsSome o) (updates.others q apart) there)) [
          | inl at ↦ inl at
          | inr at ↦ inl (at ∙ generation)
        ]

        go : (q : ℕ × ℕ) → get old q ≡ None → IsSome (get new q) → (q.0 ≡ p.0) ⊎ (q.0 ≢ p.0) → (q.1 ≡ p.1) ⊎ (q.1 ≢ p.1) → (q.1 ≡ old.generation) ⊎ (q.1 ≡ new.generation)
        go q none there i (inl g) = inl (g ∙ free.of_generation ∙ generation)
        go q none there i (inr g) = other q none there (λ same. g (ap (λ (r : ℕ × ℕ). r.1) same))

  pub steps-none : (a : Sorted K V) → IsStep a a
  steps-none a = record { comes = λ q none there. absurd (let lost : is_some (get a q) ≡ is_some {T = K × V} None = ap is_some none in cc) }

  -- the first entry of a list
  pub first-taken : (es : List (Entry (K × V))) (x : K × V) → Some x ≡ first_item es → (e : Entry (K × V)) × (es ≡ e ∷ behind_first es) × (x ≡ e.item)
  first-taken [] x is = absurd (cc)
  first-taken (e ∷ es) x is = (e, refl, cc)

  module _ (cmp : K → K → Ordering) where
    -- what an insertion makes of the keys and values
    items-put : (x : Entry (K × V)) (es : List (Entry (K × V))) → map pair_of (put_behind cmp x es) ≡ with_item cmp x.item (map pair_of es)
    items-put x [] = refl
    items-put x (e ∷ es) = go (is_lt (cmp (key_of x) (key_of e))) (items-put x es)
      where
        go : (b : Bool) → map pair_of (put_behind cmp x es) ≡ with_item cmp x.item (map pair_of es)
            → map pair_of (if b then x ∷ e ∷ es else e ∷ put_behind cmp x es) ≡ (if b then x.item ∷ e.item ∷ map pair_of es else e.item ∷ with_item cmp x.item (map pair_of es))
        go true later = refl
        go false later = ap (λ (xs : List (K × V)). e.item ∷ xs) later

    pub inserts-item : (most : ℕ) (old new : Sorted K V) (p : ℕ × ℕ) (k : K) (v : V) → new ≡ with_entry cmp most old p (k, v) → map pair_of new.entries ≡ with_item cmp (k, v) (map pair_of old.entries)
    unfolding with_entry
    inserts-item most old new p k v is = rw is (items-put (entry_of p (k, v)) old.entries)

    -- the first of the others comes in
    pub merges-more : (most : ℕ) (old new : Sorted K V) (others : List (Entry (K × V))) (p : ℕ × ℕ) (k : K) (v : V) → Some (k, v) ≡ first_item others → new ≡ with_entry cmp most old p (k, v)
        → merged cmp (map pair_of new.entries) (map pair_of (behind_first others)) ≡ merged cmp (map pair_of old.entries) (map pair_of others)
    merges-more most old new others p k v is h =
        let first = first-taken others (k, v) is in
        let step : map pair_of others ≡ (k, v) ∷ map pair_of (behind_first others) = ap (map pair_of) first.1 ∙ ap (λ (x : K × V). x ∷ map pair_of (behind_first others)) (sym first.2) in
        ap (λ (xs : List (K × V)). merged cmp xs (map pair_of (behind_first others))) (inserts-item most old new p k v h)
        ∙ sym (ap (λ (xs : List (K × V)). merged cmp (map pair_of old.entries) xs) step)

    -- an item that no key is greater than comes last
    pub with_item-last : (k : K) (v : V) (es : List (Entry (K × V))) → AllByRecursion (λ e. is_lt (cmp k (key_of e)) ≡ false) es → with_item cmp (k, v) (map pair_of es) ≡ map pair_of es ++ (k, v) ∷ []
    with_item-last k v [] all = refl
    with_item-last k v (e ∷ es) all = rw (all.0) (ap (λ (xs : List (K × V)). e.item ∷ xs) (with_item-last k v es all.1))

    -- parts of a sorted list
    pub sorted-back : (front back : List (Entry (K × V))) → AreSorted cmp (front ++ back) → AreSorted cmp back
    sorted-back [] back sorted = sorted
    sorted-back (e ∷ front) back sorted = sorted-back front back sorted.1

    pub sorted-front : (front back : List (Entry (K × V))) → AreSorted cmp (front ++ back) → AreSorted cmp front
    sorted-front [] back sorted = tt
    sorted-front (e ∷ front) back sorted =
        (All-from_recursion _ front (all-front (λ f. cmp (key_of e) (key_of f) ≢ Greater) front back (recursion_from_All _ (front ++ back) sorted.0)), sorted-front front back sorted.1)

    module _ (total : IsTotalOrder cmp) where
      not_less-behind : (e x : Entry (K × V)) → cmp (key_of x) (key_of e) ≢ Greater → is_lt (cmp (key_of e) (key_of x)) ≡ false
      not_less-behind e x most = go (cmp (key_of e) (key_of x)) refl
        where
          go : (o : Ordering) → cmp (key_of e) (key_of x) ≡ o → is_lt (cmp (key_of e) (key_of x)) ≡ false
          go Less is = absurd (most (total.antisymm (key_of x) (key_of e) ∙ ap ordering_reverse is))
          go Equal is = ap is_lt is
          go Greater is = ap is_lt is

      none-after : (taken : List (Entry (K × V))) (e : Entry (K × V)) (later : List (Entry (K × V))) → AreSorted cmp (taken ++ e ∷ later)
          → AllByRecursion (λ x. is_lt (cmp (key_of e) (key_of x)) ≡ false) taken
      none-after [] e later sorted = tt
      none-after (x ∷ taken) e later sorted =
          (not_less-behind e x (all-at (λ f. cmp (key_of x) (key_of f) ≢ Greater) taken e later (recursion_from_All _ (taken ++ e ∷ later) sorted.0)), none-after taken e later sorted.1)

      -- entries of a sorted list that come in one after another come in order
      pub moves-more : (most : ℕ) (old new : Sorted K V) (p : ℕ × ℕ) (k : K) (v : V) (taken : List (Entry (K × V))) (e : Entry (K × V)) (later : List (Entry (K × V)))
          → AreSorted cmp (taken ++ e ∷ later) → (k, v) ≡ e.item → map pair_of old.entries ≡ map pair_of taken → new ≡ with_entry cmp most old p (k, v) → map pair_of new.entries ≡ map pair_of (taken ++ e ∷ [])
      moves-more most old new p k v taken e later sorted is same h =
          inserts-item most old new p k v h ∙ ap (with_item cmp (k, v)) same ∙ ap (λ (x : K × V). with_item cmp x (map pair_of taken)) is
          ∙ with_item-last (key_of e) e.item.1 taken (none-after taken e later sorted) ∙ sym (map-append pair_of taken (e ∷ []))
