-- Listings stay in order, and sound.
use Rattle.std.proofs.Common.{◌≡◌, ◌≢◌, ℕ, ◌+◌, ◌≤◌, Bool, true, false, ◌==◌, List, [], ◌∷◌, ◌++◌, filter, length, Option, Some, None, is_some, refl, sym, ap, ◌∙◌, arith, if◌then◌else◌}
use Rattle.std.specs.{List.AllByRecursion, List.All, Ordering.is_lt, Ordering.ordering_reverse, Cmp.IsTotalOrder}
use Rattle.std.specs.declared.cmp.Ordering.{Ordering, TheVariants.Less, TheVariants.Equal, TheVariants.Greater}
use Rattle.std.proofs.lemmas.{Grind.common_steps, List.Elements.All-from_recursion, List.Elements.recursion_from_All}
use Rattle.triple_ord.specs.Chain.{Entry, times, IsDistinct, without}
use Rattle.listing.specs.Listing.{Listing, entry_of, get, count, with_left, with_rest, without_entry, with_passing, key_of, put_behind, with_entry, with_key_from, with_key, AreSorted, IsSound, IsFree}
use Rattle.listing.proofs.Pointers.{length-put, length-without_named, fewer-passing}

-- a key isn't greater than itself
pub not_greater-itself : {K : Type 0} (cmp : K → K → Ordering) → IsTotalOrder cmp → (k : K) → cmp k k ≢ Greater
not_greater-itself cmp total k is = let other : Greater ≡ Less = sym is ∙ total.antisymm k k ∙ ap ordering_reverse is in cc

module _ {T : Type 0} where
  pub fewer-without : (i j : ℕ) (es : List (Entry T)) → times j (without i es) ≤ times j es
  fewer-without i j [] = omega arith
  fewer-without i j (e ∷ es) = grind (arith, common_steps, fewer-without i j es)

  pub shorter-without : (i : ℕ) (es : List (Entry T)) → length (without i es) ≤ length es
  shorter-without i [] = omega arith
  shorter-without i (e ∷ es) = grind (arith, common_steps, shorter-without i es)

  pub recursion-without : (P : Entry T → Type 0) (i : ℕ) (es : List (Entry T)) → AllByRecursion P es → AllByRecursion P (without i es)
  recursion-without P i [] all = tt
  recursion-without P i (e ∷ es) all = elim (e.index == i) as (λ b. AllByRecursion P (if b then es else e ∷ without i es)) [
    | true ↦ all.1
    | false ↦ (all.0, recursion-without P i es all.1)
  ]

module _ {K V : Type 0} (cmp : K → K → Ordering) where
  pub sorted-without : (i : ℕ) (es : List (Entry (K × V))) → AreSorted cmp es → AreSorted cmp (without i es)
  sorted-without i [] sorted = tt
  sorted-without i (e ∷ es) sorted = elim (e.index == i) as (λ b. AreSorted cmp (if b then es else e ∷ without i es)) [
    | true ↦ sorted.1
    | false ↦ (All-from_recursion _ (without i es) (recursion-without (λ x. cmp (key_of e) (key_of x) ≢ Greater) i es (recursion_from_All _ es sorted.0)), sorted-without i es sorted.1)
  ]

  -- an entry between those that its key isn't less than and those that it is less than
  pub put-between : (x : Entry (K × V)) (front back : List (Entry (K × V))) → AllByRecursion (λ e. cmp (key_of x) (key_of e) ≢ Less) front
      → AllByRecursion (λ e. cmp (key_of x) (key_of e) ≡ Less) back → put_behind cmp x (front ++ back) ≡ front ++ x ∷ back
  put-between x [] [] low high = refl
  put-between x [] (e ∷ back) low high = rw (ap is_lt high.0) refl
  put-between x (e ∷ front) back low high = rw (not_less (cmp (key_of x) (key_of e)) low.0) (ap (λ (es : List (Entry (K × V))). e ∷ es) (put-between x front back low.1 high))
    where
      not_less : (o : Ordering) → o ≢ Less → is_lt o ≡ false
      not_less Less most = absurd (most refl)
      not_less Equal most = refl
      not_less Greater most = refl

  all-put : (P : Entry (K × V) → Type 0) (x : Entry (K × V)) (es : List (Entry (K × V))) → P x → AllByRecursion P es → AllByRecursion P (put_behind cmp x es)
  all-put P x [] one all = (one, tt)
  all-put P x (e ∷ es) one all = elim (is_lt (cmp (key_of x) (key_of e))) as (λ b. AllByRecursion P (if b then x ∷ e ∷ es else e ∷ put_behind cmp x es)) [
    | true ↦ (one, all)
    | false ↦ (all.0, all-put P x es one all.1)
  ]

  module _ (total : IsTotalOrder cmp) where
    all-less : (k : K) (e : Entry (K × V)) (es : List (Entry (K × V))) → cmp k (key_of e) ≡ Less → AllByRecursion (λ f. cmp (key_of e) (key_of f) ≢ Greater) es
        → AllByRecursion (λ f. cmp k (key_of f) ≢ Greater) es
    all-less k e [] less all = tt
    all-less k e (f ∷ es) less all = (below (cmp (key_of e) (key_of f)) refl all.0, all-less k e es less all.1)
      where
        below : (o : Ordering) → cmp (key_of e) (key_of f) ≡ o → cmp (key_of e) (key_of f) ≢ Greater → cmp k (key_of f) ≢ Greater
        below Less is most more = let both = sym (total.trans k (key_of e) (key_of f) less is) ∙ more in cc
        below Equal is most more = let other : cmp (key_of f) (key_of e) ≡ Equal = total.antisymm (key_of f) (key_of e) ∙ ap ordering_reverse is in
            let same = total.congr (key_of f) (key_of e) k other in
            let back : cmp (key_of f) k ≡ Less = total.antisymm (key_of f) k ∙ ap ordering_reverse more in
            let forth : cmp (key_of e) k ≡ Greater = total.antisymm (key_of e) k ∙ ap ordering_reverse less in
            cc
        below Greater is most more = most is

    pub sorted-put : (x : Entry (K × V)) (es : List (Entry (K × V))) → AreSorted cmp es → AreSorted cmp (put_behind cmp x es)
    sorted-put x [] sorted = (All-from_recursion _ [] tt, tt)
    sorted-put x (e ∷ es) sorted = go (cmp (key_of x) (key_of e)) refl (sorted-put x es sorted.1)
      where
        later : AllByRecursion (λ f. cmp (key_of e) (key_of f) ≢ Greater) es
        later = recursion_from_All _ es sorted.0

        behind : AreSorted cmp (put_behind cmp x es) → cmp (key_of e) (key_of x) ≢ Greater → AreSorted cmp (e ∷ put_behind cmp x es)
        behind rest most = (All-from_recursion _ (put_behind cmp x es) (all-put (λ f. cmp (key_of e) (key_of f) ≢ Greater) x es most later), rest)

        go : (o : Ordering) → cmp (key_of x) (key_of e) ≡ o → AreSorted cmp (put_behind cmp x es) → AreSorted cmp (if is_lt (cmp (key_of x) (key_of e)) then x ∷ e ∷ es else e ∷ put_behind cmp x es)
        go Less is rest = rw is (All-from_recursion _ (e ∷ es) ((λ more. let both = sym is ∙ more in cc), all-less (key_of x) e es is later), sorted)
        go Equal is rest = rw is (behind rest (λ more. let other : cmp (key_of e) (key_of x) ≡ Equal = total.antisymm (key_of e) (key_of x) ∙ ap ordering_reverse is in cc))
        go Greater is rest = rw is (behind rest (λ more. let other : cmp (key_of e) (key_of x) ≡ Less = total.antisymm (key_of e) (key_of x) ∙ ap ordering_reverse is in cc))

  -- soundness after a removal
  pub removed-sound : (most : ℕ) (greatest : Option ℕ) (a : Listing (K × V)) (p : ℕ × ℕ) → IsSound cmp most a → IsSound cmp most (without_entry greatest a p)
  unfolding without_entry
  removed-sound most greatest a p sound = go (is_some (get a p))
    where
      go : (b : Bool) → IsSound cmp most (if b then with_left greatest a (without p.0 a.entries) else a)
      go true = record {
        sorted = sorted-without p.0 a.entries sound.sorted;
        distinct = λ j. omega (arith, fewer-without p.0 j a.entries, sound.distinct j);
        indexed = λ j there. sound.indexed j (omega (arith, fewer-without p.0 j a.entries, there));
        within = omega (arith, shorter-without p.0 a.entries, sound.within);
        limited = sound.limited;
      }
      go false = sound
