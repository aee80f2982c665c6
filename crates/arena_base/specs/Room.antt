-- What calls promise that change how much room a container has, or that need room. `After` is true if the call succeeds. `Same` says that
-- nothing has changed.
use Rattle.std.specs.Prelude.{◌≡◌, ◌⊎◌, ◌↔◌, ◌<◌, ℕ, Result, Err, IsOk, IsErr, IfOk, IfErr, OnOk, OnErr}
use Rattle.std.specs.declared.alloc.AllocError.{AllocError}
use Rattle.arena_base.specs.declared.error.InsertionError.{InsertionError, TheVariants.NotWithinCapacity}
use Rattle.arena_base.specs.declared.error.InsertionError.{TheVariants.BeyondMaxCapacity as InsertionBeyond, TheVariants.AllocError as InsertionAlloc}
use Rattle.arena_base.specs.declared.error.ReallocationError.{ReallocationError, TheVariants.BeyondMaxCapacity}
use Rattle.arena_base.specs.declared.error.ReallocationError.{TheVariants.AllocError as ReallocationAlloc}

-- A call that creates a container with room for n entries, of which `IsMade` is true. It fails if n is beyond the greatest index of an
-- entry, and doesn't fail if n is 0.
pub record Allocates {C : Type 0} (most n : ℕ) (result : Result C AllocError) (IsMade : C → Type 0) : Type 0 where
  pub ok : IfOk result IsMade
  pub beyond : most < n → IsErr result
  pub none : n ≡ 0 → IsOk result

-- A call that needs room for `needed` entries. It fails if they are beyond the limit, or if they are more than the capacity and growing
-- failed.
pub record Reallocates {R : Type 0} (limit capacity needed : ℕ) (result : Result R ReallocationError) (After Same : Type 0) : Type 0 where
  pub ok : OnOk result After
  pub beyond : (result ≡ Err BeyondMaxCapacity) ↔ (limit < needed)
  pub memory : result ≡ Err ReallocationAlloc → capacity < needed
  pub err : OnErr result Same

-- A call that makes a container a clone of another, whose greatest index is `needed`. It fails if that index is beyond the limit, if
-- growing failed, or if an item was refused memory. `After` is true if it succeeds, `Refused` if an item was refused. `Same` says that
-- nothing has changed, as in the other two cases.
pub record ClonesOrFails {R : Type 0} (limit capacity needed : ℕ) (result : Result R ReallocationError) (After Same Refused : Type 0) : Type 0 where
  pub ok : OnOk result After
  pub beyond : (result ≡ Err BeyondMaxCapacity) ↔ (limit < needed)
  pub beyond_kept : result ≡ Err BeyondMaxCapacity → Same
  pub memory : result ≡ Err ReallocationAlloc → ((capacity < needed) × Same) ⊎ Refused

-- A call that makes a clone, as in `ClonesOrFails`, by a mapping that it borrows. `IsCallable` says that the mapping can be called again, and
-- `Source` is what the call says of the container that was cloned.
pub record ClonesBy {R : Type 0} (limit capacity needed : ℕ) (result : Result R ReallocationError) (IsCallable Source After Same Refused : Type 0) : Type 0 where
  pub callable : IsCallable
  pub source : Source
  pub clones : ClonesOrFails limit capacity needed result After Same Refused

-- A call that sets the maximum of the capacity to n. It fails if the capacity is greater.
pub record LimitsCapacity {R E : Type 0} (capacity n : ℕ) (result : Result R E) (After Same : Type 0) : Type 0 where
  pub ok : OnOk result After
  pub refused : IsErr result ↔ (n < capacity)
  pub err : OnErr result Same

-- An insertion within the capacity fails if and only if the container is full, which has `count` entries.
pub record FailsIfFull {R : Type 0} (count capacity : ℕ) (result : Result R InsertionError) (Same : Type 0) : Type 0 where
  pub full : IsErr result ↔ (count ≡ capacity)
  pub refusal : IfErr result (λ e. e ≡ NotWithinCapacity)
  pub err : OnErr result Same

-- An insertion that can grow the container fails only if it is full, because its capacity is at the limit or because growing failed.
pub record FailsOnlyIfFull {R : Type 0} (count capacity limit : ℕ) (result : Result R InsertionError) (Same : Type 0) : Type 0 where
  pub beyond : (result ≡ Err InsertionBeyond) ↔ (count ≡ limit)
  pub memory : result ≡ Err InsertionAlloc → count ≡ capacity
  pub refusal : IfErr result (λ e. (e ≡ InsertionBeyond) ⊎ (e ≡ InsertionAlloc))
  pub err : OnErr result Same
