-- Pointers that name an item keep it while calls are to other entries.
use Rattle.std.proofs.Common.{◌≡◌, ℕ, List, [], ◌∷◌, Option, IsSome, inl, inr, sym, ap, subst, ◌∙◌}
use Rattle.listing.specs.Listing.{Listing, get}
use Rattle.listing.specs.Steps.{IsOfOthers, AreOfOthers, KeptPointerLaw}

module _ {T : Type 0} (q : ℕ × ℕ) where
  once : (old new : Listing T) → IsOfOthers q old new → IsSome (get old q) → get new q ≡ get old q
  once old new (inl keeps) there = keeps q there
  once old new (inr other) there = other.2.others q other.3

  along : (between : List (Listing T)) (old new : Listing T) → AreOfOthers q old between new → IsSome (get old q) → get new q ≡ get old q
  along [] old new same there = ap (λ (a : Listing T). get a q) same
  along (next ∷ rest) old new run there =
      let first = once old next run.0 there in
      along rest next new run.1 (subst (λ (o : Option T). IsSome o) (sym first) there) ∙ first

pub kept_pointer : {T : Type 0} → KeptPointerLaw T
kept_pointer = record { run = λ q old new between. along q between old new }
