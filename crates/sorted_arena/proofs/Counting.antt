-- How many entries have an equal key.
use Rattle.std.proofs.Common.{◌≡◌, Bool, false, count_by, List, [], ◌∷◌, Option, Some, None, IsSomeAnd, refl, sym, subst, arith}
use Rattle.std.proofs.lemmas.Grind.{common_steps}
use Rattle.std.specs.{List.AllByRecursion, Option.option_map, Ordering.is_eq, Cmp.IsTotalOrder}
use Rattle.std.specs.declared.cmp.Ordering.{Ordering, TheVariants.Equal}
use Rattle.listing.specs.Chain.{Entry}
use Rattle.sorted_arena.specs.Sorted.{key_of, first_where}
use Rattle.sorted_arena.proofs.Cutting.{none-where, some-same}

module _ {K V : Type 0} where
  -- where none is found, none is counted
  pub count-none : (test : Entry (K × V) → Bool) (es : List (Entry (K × V))) → first_where test es ≡ None → count_by test es ≡ 0
  count-none test es none = go es (none-where test es none)
    where
      go : (es : List (Entry (K × V))) → AllByRecursion (λ e. test e ≡ false) es → count_by test es ≡ 0
      go [] all = refl
      go (e ∷ es) all = grind (arith, common_steps, all.0, go es all.1)

  -- equal keys have the same equal ones
  pub count-equal : (cmp : K → K → Ordering) → IsTotalOrder cmp → (k l : K) → cmp k l ≡ Equal → (es : List (Entry (K × V)))
      → count_by (λ e. is_eq (cmp l (key_of e))) es ≡ count_by (λ e. is_eq (cmp k (key_of e))) es
  count-equal cmp total k l equal [] = refl
  count-equal cmp total k l equal (e ∷ es) = grind (arith, common_steps, total.congr k l (key_of e) equal, count-equal cmp total k l equal es)

  -- what holds of a key that is there
  pub key-holds : (P : K → Type 0) (o : Option (K × V)) (k : K) → Some k ≡ option_map (λ x. x.0) o → IsSomeAnd o (λ x. P x.0) → P k
  key-holds P None k is holds = absurd (cc)
  key-holds P (Some x) k is holds = let same : k ≡ x.0 = some-same is in subst P (sym same) holds

  pub key-there : (P : K → Type 0) (o : Option (K × V)) → None ≡ option_map (λ x. x.0) o → IsSomeAnd o (λ x. P x.0) → ⊥
  key-there P None is holds = holds
  key-there P (Some x) is holds = absurd (cc)
