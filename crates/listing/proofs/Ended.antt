-- Pointers that ended stay so.
use Rattle.std.proofs.Common.{◌≡◌, ◌≢◌, ℕ, ◌<◌, ◌≤◌, ◌⊎◌, inl, inr, List, [], ◌∷◌, Option, Some, None, IsSome, is_some, true, refl, sym, ap, subst, ◌∙◌, arith}
use Rattle.std.proofs.lemmas.Bool.{cases_eq}
use Rattle.listing.specs.Listing.{Listing, get}
use Rattle.listing.specs.Steps.{IsStep, Raises, GoesOn, IsRun, HasNoLaterPointer, HasEnded, KeepsEnded, EndedPointerLaw}

module _ {T : Type 0} where
  risen : (old new : Listing T) → GoesOn old new → old.generation ≤ new.generation
  risen old new (inl more) = omega (arith, more)
  risen old new (inr same) = omega (arith, same.0)

  one : (old new : Listing T) → IsStep old new → GoesOn old new → KeepsEnded old new
  one old new step on = record {
    ended = λ q h. record { nothing = none q h (get new q) refl; passed = omega (arith, risen old new on, h.passed) };
    no_later = λ none. record { not_above = λ q there. later q none there (get old q) refl };
    ends = λ q none there gone. record { nothing = gone; passed = passed q none there gone on };
  }
    where
      none : (q : ℕ × ℕ) → HasEnded old q → (o : Option T) → get new q ≡ o → o ≡ None
      none q h None is = refl
      none q h (Some x) is = absurd (elim (step.comes q h.nothing (ap is_some is)) [
        | inl at ↦ omega (arith, at, h.passed)
        | inr at ↦ omega (arith, at, h.passed, risen old new on)
      ])

      later : (q : ℕ × ℕ) → HasNoLaterPointer old → IsSome (get new q) → (o : Option T) → get old q ≡ o → q.1 ≤ new.generation
      later q not_above there None is = elim (step.comes q is there) [
        | inl at ↦ omega (arith, at, risen old new on)
        | inr at ↦ omega (arith, at)
      ]
      later q not_above there (Some x) is = omega (arith, not_above.not_above q (ap is_some is), risen old new on)

      passed : (q : ℕ × ℕ) → HasNoLaterPointer old → IsSome (get old q) → get new q ≡ None → GoesOn old new → q.1 < new.generation
      passed q not_above there gone (inl more) = omega (arith, not_above.not_above q there, more)
      passed q not_above there gone (inr same) = absurd (let still : is_some (get new q) ≡ true = same.1 q there in let lost : is_some (get new q) ≡ is_some {T = T} None = ap is_some gone in cc)

  pub nowhere : (a : Listing T) → KeepsEnded a a
  nowhere a = record { ended = λ q h. h; no_later = λ none. none; ends = λ q none there gone. absurd (let lost : is_some (get a q) ≡ is_some {T = T} None = ap is_some gone in cc) }

  pub then : (a b c : Listing T) → KeepsEnded a b → KeepsEnded b c → KeepsEnded a c
  then a b c first second = record {
    ended = λ q h. second.ended q (first.ended q h);
    no_later = λ none. second.no_later (first.no_later none);
    ends = λ q none there gone. go q none there gone (get b q) refl;
  }
    where
      go : (q : ℕ × ℕ) → HasNoLaterPointer a → IsSome (get a q) → get c q ≡ None → (o : Option T) → get b q ≡ o → HasEnded c q
      go q none there gone None is = second.ended q (first.ends q none there is)
      go q none there gone (Some x) is = second.ends q (first.no_later none) (ap is_some is) gone

  along : (between : List (Listing T)) (old new : Listing T) → IsRun old between new → KeepsEnded old new
  along [] old new run = subst (λ (a : Listing T). KeepsEnded old a) (sym run) (nowhere old)
  along (next ∷ rest) old new run = then old next new (one old next run.0 run.1) (along rest next new run.2)

-- a call that doesn't make the generations begin again, by the generations alone
pub goes_on : {T : Type 0} (old new : Listing T) → Raises old new → old.generation ≤ new.generation → GoesOn old new
unfolding Raises
goes_on old new (inr other) up = inl (omega (arith, other, up))
goes_on old new (inl none) up = elim (cases_eq new.generation old.generation) [
  | inl same ↦ inr (same, none)
  | inr other ↦ inl (omega (arith, other, up))
]

pub ended_pointer : {T : Type 0} → EndedPointerLaw T
ended_pointer = record { one = one; run = λ old new between. along between old new }
