-- Where a search by a closure ends (layout).
use Rattle.std.specs.Prelude.{◌≡◌, ℕ, ◌≤◌, Bool, if◌then◌else◌, List, [], ◌∷◌, Option, Some, None}
use Rattle.std.specs.{Borrow.Bor, List.AllByRecursion, Ordering.is_lt}
use Rattle.std.specs.declared.cmp.Ordering.{Ordering, TheVariants.Less, TheVariants.Greater}
use denote.Param.Members.{Shared}
use Rattle.listing.specs.Chain.{Entry}
use Rattle.sorted_arena.specs.Sorted.{next_of}

module _ {T : Type 0} where
  -- The pointer that a search by a closure finds, by the entry that it met last and the answer for it: after `Less` this entry, else the one
  -- behind it.
  abbrev pub from_met : List (Entry T) → Option ((ℕ × ℕ) × Ordering) → Option (ℕ × ℕ)
  from_met es None = None
  from_met es (Some met) = if is_lt met.1 then Some met.0 else next_of es met.0

  -- n of an entry is at most n of each later one
  abbrev pub Rises : (Entry T → ℕ) → List (Entry T) → Type 0
  Rises n [] = Unit {0}
  Rises n (e ∷ es) = AllByRecursion (λ f. n e ≤ n f) es × Rises n es

-- The answer of a search for an entry, by what a closure answered for a key: what is sought is behind the entry if that passes a test, and
-- else before it.
pub record AnswersBy {F K : Type 0} (g : Shared F (Bor K × Unit {0}) Ordering) (f : F) (k : K) (passes : Ordering → Bool) (answer : Ordering) : Type 0 where
  pub shown : Bor K
  pub shows : shown.now ≡ k
  pub order : Ordering
  pub says : g.post f (shown, tt) order
  pub answer_is : answer ≡ (if passes order then Greater else Less)
