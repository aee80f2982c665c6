-- The steps of a transfer. No public clause cites this file.
use Rattle.std.specs.Prelude.{◌≡◌, ℕ, zero, suc, List, [], ◌∷◌, ◌++◌, length, Option, Some, None}
use Rattle.std.specs.List.{FoldsTo}
use Rattle.arena_base.specs.declared.invalidation.InvalidationOption.{InvalidationOption}
use Rattle.arena_base.specs.{Generation.next_generation, Generation.overflows_after, Invalidation.allowed_value, Invalidation.is_overflow}
use Rattle.chain_base.specs.declared.chain.insert.LinkInsertKind.TheVariants.{Disconnected, NextToInx}
use Rattle.chain_base.specs.Compression.{numbered, refilled, Transferring, TransferStep}
use Rattle.chain_base.specs.{declared.chain.insert.LinkInsertKind.LinkInsertKind, Chain.Entry, Chain.Chain}

-- c with entries of these items alone, at the indexes from 1 on
abbrev pub filled_with : {T : Type 0} → Chain T → List T → Chain T
filled_with c items = refilled c c.generation (numbered c.generation 1 items)

-- the last of n indexes from 1 on
abbrev pub last_index_of : ℕ → Option ℕ
last_index_of zero = None
last_index_of (suc n) = Some (suc n)

-- the place behind the last entry, or the only place if there is none
abbrev pub place_behind : {P I G : Type 0} → Option I → LinkInsertKind P I G
place_behind None = Disconnected
place_behind (Some i) = NextToInx i

-- the first entry was removed
pub record TakesFirst {Q U : Type 0} (numbers : Q → ℕ × ℕ) (greatest : Option ℕ) (old new : Chain U) (from : Q) (taken : InvalidationOption U) : Type 0 where
  pub entry : Entry U
  pub rest : List (Entry U)
  pub split : old.entries ≡ entry ∷ rest
  pub from_index : (numbers from).0 ≡ entry.index
  pub from_generation : (numbers from).1 ≡ entry.generation
  pub taken_item : allowed_value taken ≡ entry.item
  pub taken_overflow : is_overflow taken ≡ overflows_after greatest old.generation
  pub left : new.entries ≡ rest
  pub capacity : new.capacity ≡ old.capacity
  pub maximum : new.maximum ≡ old.maximum
  pub raised : new.generation ≡ next_generation greatest old.generation

-- the state of a transfer after some calls
abbrev pub after_calls : {M T U : Type 0} → M → List T → Chain U → Transferring M T
after_calls m items source = record { closure = m; items = items; generation = source.generation }

module _ {P Q T U M : Type 0} (numbers_from : Q → ℕ × ℕ) (numbers_to : P → ℕ × ℕ) (greatest : Option ℕ) (step : M → Q → InvalidationOption U → P → T → M → Type 0) where
  -- some entries moved from the source to c, which was empty
  pub record HasTaken (m : M) (source source_now : Chain U) (c now : Chain T) (n : M) : Type 0 where
    pub gone : List (Entry U)
    pub items : List T
    pub split : source.entries ≡ gone ++ source_now.entries
    pub calls : FoldsTo (TransferStep numbers_from numbers_to greatest step c.generation) (after_calls m [] source) gone (after_calls n items source_now)
    pub count : length items ≡ length gone
    pub put : now ≡ filled_with c items
    pub capacity : source_now.capacity ≡ source.capacity
    pub maximum : source_now.maximum ≡ source.maximum
