-- That each change of a listing is a step.
use Rattle.std.proofs.Common.{◌≡◌, ◌≢◌, ℕ, ◌⊎◌, inl, inr, List, [], Bool, true, false, Option, Some, None, IsSome, is_some, refl, sym, ap, subst, ◌∙◌, arith, if◌then◌else◌}
use Rattle.std.specs.{Option.option_map, declared.cmp.Ordering.Ordering}
use Rattle.std.proofs.lemmas.Bool.{cases_eq}
use Rattle.triple_ord.specs.{Chain.Entry, Chain.IsDistinct, Chain.without, Generation.next_generation}
use Rattle.triple_ord.proofs.ChainLemmas.{entry_at-absent}
use Rattle.listing.specs.Listing.{Listing, get, with_left, with_entry, with_key, without_entry, Updates, Keeps, IsFree}
use Rattle.listing.specs.Steps.{IsStep, EndsNone}
use Rattle.listing.proofs.Pointers.{entry-updates, key-updates, without-updates}

module _ {T : Type 0} where
  none-there : (a b : Listing T) (q : ℕ × ℕ) → get a q ≡ None → get b q ≡ get a q → IsSome (get b q) → ⊥
  none-there a b q none same there = let lost : is_some (get b q) ≡ is_some {T = T} None = ap is_some (same ∙ none) in cc

  pub step-stays : (old new : Listing T) → new ≡ old → IsStep old new
  step-stays old new same = record { comes = λ q none there. absurd (none-there old new q none (ap (λ (a : Listing T). get a q) same) there) }

  -- one pointer changes, which may come only with the generation of the listing
  changed-step : (old new : Listing T) (p : ℕ × ℕ) (now : Option T) → Updates old new p now → (get old p ≡ None → IsSome now → p.1 ≡ old.generation) → IsStep old new
  changed-step old new p now updates at = record { comes = λ q none there. go q none there (cases_eq q.0 p.0) (cases_eq q.1 p.1) }
    where
      other : (q : ℕ × ℕ) → get old q ≡ None → IsSome (get new q) → q ≢ p → (q.1 ≡ old.generation) ⊎ (q.1 ≡ new.generation)
      other q none there apart = absurd (none-there old new q none (updates.others q apart) there)

      go : (q : ℕ × ℕ) → get old q ≡ None → IsSome (get new q) → (q.0 ≡ p.0) ⊎ (q.0 ≢ p.0) → (q.1 ≡ p.1) ⊎ (q.1 ≢ p.1) → (q.1 ≡ old.generation) ⊎ (q.1 ≡ new.generation)
      go q none there (inl i) (inl g) =
          let same : q ≡ p = ap (λ (j : ℕ). (j, q.1)) i ∙ ap (λ (h : ℕ). (p.0, h)) g in
          inl (g ∙ at (ap (get old) (sym same) ∙ none) (subst (λ (o : Option T). IsSome o) (ap (get new) same ∙ updates.changed) there))
      go q none there (inr i) g = other q none there (λ same. i (ap (λ (r : ℕ × ℕ). r.0) same))
      go q none there i (inr g) = other q none there (λ same. g (ap (λ (r : ℕ × ℕ). r.1) same))

  none-ends : (old new : Listing T) (p : ℕ × ℕ) (now : Option T) → Updates old new p now → (IsSome (get old p) → IsSome now) → EndsNone old new
  none-ends old new p now updates still q there = go (cases_eq q.0 p.0) (cases_eq q.1 p.1)
    where
      other : q ≢ p → IsSome (get new q)
      other apart = subst (λ (o : Option T). IsSome o) (sym (updates.others q apart)) there

      go : (q.0 ≡ p.0) ⊎ (q.0 ≢ p.0) → (q.1 ≡ p.1) ⊎ (q.1 ≢ p.1) → IsSome (get new q)
      go (inl i) (inl g) =
          let same : q ≡ p = ap (λ (j : ℕ). (j, q.1)) i ∙ ap (λ (h : ℕ). (p.0, h)) g in
          subst (λ (o : Option T). IsSome o) (sym (ap (get new) same ∙ updates.changed)) (still (subst (λ (o : Option T). IsSome o) (ap (get old) same) there))
      go (inr i) g = other (λ same. i (ap (λ (r : ℕ × ℕ). r.0) same))
      go i (inr g) = other (λ same. g (ap (λ (r : ℕ × ℕ). r.1) same))

  pub step-without_entry : (greatest : Option ℕ) (a : Listing T) (p : ℕ × ℕ) → IsDistinct a.entries → IsStep a (without_entry greatest a p)
  step-without_entry greatest a p distinct = changed-step a (without_entry greatest a p) p None (without-updates greatest a p distinct) (λ none some. absurd (cc))

  pub step-emptied : (greatest : Option ℕ) (a : Listing T) → IsStep a (with_left greatest a [])
  step-emptied greatest a = record { comes = λ q none there. absurd (let lost : is_some {T = T} None ≡ true = there in cc) }

module _ {K V : Type 0} (cmp : K → K → Ordering) where
  pub step-with_entry : (most : ℕ) (a : Listing (K × V)) (p : ℕ × ℕ) (x : K × V) → IsFree a p → IsStep a (with_entry cmp most a p x)
  step-with_entry most a p x free = changed-step a (with_entry cmp most a p x) p (Some x) (entry-updates cmp most a p x free) (λ none some. free.of_generation)

  pub none-with_entry : (most : ℕ) (a : Listing (K × V)) (p : ℕ × ℕ) (x : K × V) → IsFree a p → EndsNone a (with_entry cmp most a p x)
  none-with_entry most a p x free = none-ends a (with_entry cmp most a p x) p (Some x) (entry-updates cmp most a p x free) (λ there. refl)

  pub none-with_key : (a : Listing (K × V)) (p : ℕ × ℕ) (k : K) → IsDistinct a.entries → EndsNone a (with_key cmp a p k)
  none-with_key a p k distinct = none-ends a (with_key cmp a p k) p (option_map (λ x. (k, x.1)) (get a p)) (key-updates cmp a p k distinct) (still (get a p))
    where
      still : (o : Option (K × V)) → IsSome {T = K × V} o → IsSome {T = K × V} (option_map (λ x. (k, x.1)) o)
      still None there = absurd (cc)
      still (Some x) there = refl

  pub step-with_key : (a : Listing (K × V)) (p : ℕ × ℕ) (k : K) → IsDistinct a.entries → IsStep a (with_key cmp a p k)
  step-with_key a p k distinct = changed-step a (with_key cmp a p k) p (option_map (λ x. (k, x.1)) (get a p)) (key-updates cmp a p k distinct)
      (λ none some. gone (get a p) none some)
    where
      gone : (o : Option (K × V)) → o ≡ None → IsSome {T = K × V} (option_map (λ x. (k, x.1)) o) → p.1 ≡ a.generation
      gone None is some = absurd (cc)
      gone (Some x) is some = absurd (cc)
