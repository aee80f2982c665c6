-- The results of calls that end or renew a pointer.
use Rattle.std.specs.Prelude.{◌≡◌, Bool, true, false, ℕ, Option, Some, None, is_some, OnSome, IfSome, IfNone}
use Rattle.arena_base.specs.declared.invalidation.InvalidationResult.TheVariants.{Success, GenerationOverflow, InvalidPtr}
use Rattle.arena_base.specs.{declared.invalidation.InvalidationResult.InvalidationResult, declared.invalidation.InvalidationOption.InvalidationOption, Generation.next_generation, Generation.overflows_after}
use Rattle.arena_base.specs.declared.invalidation.InvalidationOption.TheVariants.{Success as Succeeded, GenerationOverflow as Overflowed}

module _ {T : Type 0} where
  -- the value, if the pointer was valid
  abbrev pub valid_value : InvalidationResult T → Option T
  valid_value (Success x) = Some x
  valid_value (GenerationOverflow x) = Some x
  valid_value InvalidPtr = None

  -- whether the generations overflowed
  abbrev pub has_overflowed : InvalidationResult T → Bool
  has_overflowed (Success x) = false
  has_overflowed (GenerationOverflow x) = true
  has_overflowed InvalidPtr = false

  -- the value
  abbrev pub allowed_value : InvalidationOption T → T
  allowed_value (Succeeded x) = x
  allowed_value (Overflowed x) = x

  -- whether the generations overflowed
  abbrev pub is_overflow : InvalidationOption T → Bool
  is_overflow (Succeeded x) = false
  is_overflow (Overflowed x) = true

-- A removal in a container with generation `before` returned the value that was there, if any. If there was one, the result says whether
-- the generations overflow, and `After` holds. Otherwise `Same` holds.
pub record IsRemoval {R X : Type 0} (greatest : Option ℕ) (before : ℕ) (result : InvalidationResult R) (told found : Option X) (After Same : Type 0) : Type 0 where
  pub value : told ≡ found
  pub overflow : OnSome (valid_value result) (has_overflowed result ≡ overflows_after greatest before)
  pub removed : OnSome (valid_value result) After
  pub invalid : IfNone (valid_value result) Same

-- A removal of an entry that is there returned what it was. The result says whether the generations overflow, and `After` holds.
pub record IsSureRemoval {R X : Type 0} (greatest : Option ℕ) (before : ℕ) (result : InvalidationOption R) (told : X) (found : Option X) (After : Type 0) : Type 0 where
  pub value : found ≡ Some told
  pub overflow : is_overflow result ≡ overflows_after greatest before
  pub removed : After

-- A call raised the generation. The result says whether the generations overflow, and `After` holds.
pub record Raises {R : Type 0} (greatest : Option ℕ) (before : ℕ) (result : InvalidationOption R) (After : Type 0) : Type 0 where
  pub after : After
  pub overflow : is_overflow result ≡ overflows_after greatest before

-- A renewal of an entry at index i returned a new pointer if the entry was found. The pointer has the same index and the raised
-- generation. The result says whether the generations overflow, and `After` holds. If no entry was found, `Same` holds.
pub record IsRenewal {P : Type 0} (numbers : P → ℕ × ℕ) (greatest : Option ℕ) (before : ℕ) (result : InvalidationResult P) (i : ℕ) (found : Bool) (After Same : Type 0) : Type 0 where
  pub valid : is_some (valid_value result) ≡ found
  pub index : IfSome (valid_value result) (λ q. (numbers q).0 ≡ i)
  pub generation : IfSome (valid_value result) (λ q. (numbers q).1 ≡ next_generation greatest before)
  pub overflow : OnSome (valid_value result) (has_overflowed result ≡ overflows_after greatest before)
  pub renewed : OnSome (valid_value result) After
  pub invalid : IfNone (valid_value result) Same
