-- What a watched device shows, and what is read from it and written to it.
use Rattle.std.specs.Prelude.{◌≡◌, ℕ, ◌+◌, ◌<◌, ◌≤◌, Bool, true, false, ◌&&◌, ◌==◌, nat_lt, List, [], ◌++◌, length, Option, Result, Ok, Err, MatchResult}
use Rattle.std.specs.Io.KnownBytes.{Consumes, Appends, IsAtEnd}
use Rattle.ord_script.specs.declared.reading.ReadError.TheVariants.{TooLong, Memory, Failed}
use Rattle.ord_script.specs.declared.reading.ReadError.{ReadError}

-- a device, whether a call has failed, and whether a read has met its end
pub record Watch (D : Type 0) : Type 0 where
  pub device : D
  pub failed : Bool
  pub ended : Bool

-- the call moved none of the `room` bytes that it could have moved
abbrev pub moves_none : {E : Type 0} → Result ℕ E → ℕ → Bool
moves_none (Ok count) room = (count == 0) && nat_lt 0 room
moves_none (Err error) room = false

-- the greatest number of bytes in an input
abbrev pub limit : ℕ
limit = 1_048_576

-- the reader returned an error
abbrev pub is_failure : {V : Type 0} → Result V ReadError → Bool
is_failure (Ok v) = false
is_failure (Err TooLong) = false
is_failure (Err Memory) = false
is_failure (Err Failed) = true

-- a read met the reader's end
abbrev pub is_end : Result ℕ ReadError → Bool
is_end (Ok count) = count == 0
is_end (Err error) = false

-- What one read means for the bytes taken from the reader, with room for at most one byte beyond the limit.
abbrev pub IsPiece : Result ℕ ReadError → List ℕ → Option (List ℕ) → List ℕ → List ℕ → Type 0
-- they follow the bytes so far, and there are none only at the reader's end
IsPiece (Ok count) taken after old new = (new ≡ old ++ taken) × (length taken ≡ count) × (count ≡ 0 → IsAtEnd after)
-- one read is never too long
IsPiece (Err TooLong) taken after old new = ⊥
-- there was no memory for them
IsPiece (Err Memory) taken after old new = length old + length taken ≤ limit + 1
-- a read that failed took none
IsPiece (Err Failed) taken after old new = taken ≡ []

-- One read, added to the bytes so far.
pub record ReadsSome (result : Result ℕ ReadError) (before after : Option (List ℕ)) (old new : List ℕ) : Type 0 where
  pub taken : List ℕ
  pub consumes : Consumes before after taken
  pub piece : IsPiece result taken after old new

-- What a whole read means for the bytes taken from the reader.
abbrev pub IsInput : Result (List ℕ) ReadError → List ℕ → Option (List ℕ) → Type 0
-- they are all that there were
IsInput (Ok bytes) taken after = (taken ≡ bytes) × (length taken ≤ limit) × IsAtEnd after
-- reading stops at the first byte beyond the limit
IsInput (Err TooLong) taken after = length taken ≡ limit + 1
-- there was no memory for them; at most one was beyond the limit
IsInput (Err Memory) taken after = length taken ≤ limit + 1
-- a read failed, and none was tried beyond the limit
IsInput (Err Failed) taken after = length taken ≤ limit

-- A whole read.
pub record ReadsAll (result : Result (List ℕ) ReadError) (before after : Option (List ℕ)) : Type 0 where
  pub taken : List ℕ
  pub consumes : Consumes before after taken
  pub input : IsInput result taken after

-- A whole write: the bytes that were written, and those that were left. None are left exactly if it succeeded.
pub record WritesAll {E : Type 0} (result : Result (Unit {0}) E) (before after : Option (List ℕ)) (bytes : List ℕ) : Type 0 where
  pub written : List ℕ
  pub rest : List ℕ
  pub appends : Appends before after written
  pub parts : bytes ≡ written ++ rest
  pub whole : MatchResult result (λ _. rest ≡ []) (λ _. 0 < length rest)
