-- What an insertion does: a single step once its place is known.
use Rattle.std.specs.{Prelude.◌≡◌, Prelude.◌≢◌, Prelude.◌+◌, Prelude.◌<◌, Prelude.ℕ, Prelude.Option, Prelude.Some, Prelude.None, Prelude.is_some, Prelude.if◌then◌else◌, Prelude.Result, Prelude.Ok, Prelude.Err, Prelude.IfOk, Prelude.IfErr, Prelude.OnOk, Prelude.OnErr, Prelude.length, declared.cmp.Ordering.Ordering, declared.cmp.Ordering.TheVariants.Equal}
use Rattle.ord_tree.specs.{Chain.Entry, Chain.Chain, Chain.chain_limit, Chain.with_room, Insert.IsInsertion, Tree.Tree, Tree.IsGrown, Tree.with_item}
use Rattle.triple_ord.specs.declared.error.OrdInsertionError.TheVariants.{FailedOrdRequirement, NotWithinCapacity, BeyondMaxCapacity, AllocError}
use Rattle.triple_ord.specs.{declared.growth.Growth.Growth, declared.growth.Growth.TheVariants.Within, declared.growth.Growth.TheVariants.Reallocating}
use Rattle.triple_ord.specs.{declared.entry_kind.OrdEntryKind.OrdEntryKind, declared.entry_kind.OrdEntryKind.TheVariants.New, declared.entry_kind.OrdEntryKind.TheVariants.Replacing, declared.error.OrdInsertionError.OrdInsertionError}
use Rattle.triple_ord.specs.Arena.{item_of, count, Updates}
use Rattle.triple_ord.specs.{Place.Aim, Place.alone, Place.at_key, Place.beside, Place.into, Place.over, Place.nowhere, Place.IsPlace, Gap.Gap, Gap.with_between, Search.pointer}

module _ {T : Type 0} where
  -- the list before an insertion that needs a slot: grown, if that is allowed and no slot is vacant
  abbrev pub with_room_by : Growth → ℕ → Chain T → Chain T
  with_room_by Within most c = c
  with_room_by Reallocating most c = with_room most c

  -- There is no slot: none is vacant within the capacity, or the length is at the limit, or a growth that is needed and allowed fails for
  -- lack of memory.
  abbrev pub LacksSlot : Growth → ℕ → Chain T → OrdInsertionError → Type 0
  LacksSlot Within most c NotWithinCapacity = length c.entries ≡ c.capacity
  LacksSlot Reallocating most c BeyondMaxCapacity = length c.entries ≡ chain_limit most c
  LacksSlot Reallocating most c AllocError = (length c.entries ≢ chain_limit most c) × (length c.entries ≡ c.capacity)
  LacksSlot growth most c refusal = ⊥

-- What a call does that makes sure that a slot is vacant: at most, the arena grows. A failed call changes nothing.
pub record MakesRoom {T X : Type 0} (growth : Growth) (most : ℕ) (old : Tree T) (result : Result X OrdInsertionError) (new : Tree T) : Type 0 where
  pub room : OnOk result (new ≡ record old { list = with_room_by growth most old.list })
  pub vacant : OnOk result (length new.list.entries < new.list.capacity)
  pub entries : new.list.entries ≡ old.list.entries
  pub refused : IfErr result (LacksSlot growth most old.list)
  pub err : OnErr result (new ≡ old)

-- The parameters: the key of an item, the order of keys, the greatest index of an entry, how the insertion gets its slot, and what it
-- goes by.
module _ {T K : Type 0} (key : T → K) (cmp : K → K → Ordering) (most : ℕ) (growth : Growth) (aim : Aim K) where
  -- a new entry goes into the gap that is its place, under the next pointer, and into the shape
  pub record InsertsNew (old : Tree T) (item : T) (p : ℕ × ℕ) (new : Tree T) : Type 0 where
    pub gap : Gap old.list.entries
    pub place : IsPlace key cmp aim (into gap)
    pub inserted : IsInsertion (with_room_by growth most old.list) new.list (with_between gap) item p.0 p.1
    pub grown : IsGrown old.shape new.shape

  -- the entry that is the place keeps its pointer and its position and gets the item; everything else stays
  pub record Replaces (old : Tree T) (item : T) (p : ℕ × ℕ) (before : T) (new : Tree T) : Type 0 where
    pub entry : Entry T
    pub place : IsPlace key cmp {entries = old.list.entries} aim (over entry)
    pub named : p ≡ pointer entry
    pub taken : before ≡ entry.item
    pub after : new ≡ with_item old entry.index item

  -- there is no place, or the place is a gap and there is no slot
  abbrev pub IsRefused : Tree T → OrdInsertionError → Type 0
  IsRefused old FailedOrdRequirement = IsPlace key cmp {entries = old.list.entries} aim nowhere
  IsRefused old refusal = (gap : Gap old.list.entries) × IsPlace key cmp aim (into gap) × LacksSlot growth most old.list refusal

  -- a failed insertion changes nothing
  pub record Refuses (old : Tree T) (refusal : OrdInsertionError) (new : Tree T) : Type 0 where
    pub refused : IsRefused old refusal
    pub after : new ≡ old

  -- An insertion, by its result: whether the entry is new, its pointer, of which `numbers` reads index and generation, and the replaced
  -- item. A replacement never fails.
  abbrev pub InsertsBy : {P : Type 0} → (P → ℕ × ℕ) → Tree T → T → Result (OrdEntryKind P × Option T) OrdInsertionError → Tree T → Type 0
  InsertsBy numbers old item (Ok (New p, None)) new = InsertsNew old item (numbers p) new
  InsertsBy numbers old item (Ok (Replacing p, Some before)) new = Replaces old item (numbers p) before new
  InsertsBy numbers old item (Ok answer) new = ⊥
  InsertsBy numbers old item (Err refusal) new = Refuses old refusal new

-- the result with the kind of its entry, which is new unless an item was replaced
abbrev pub with_kind : {P T : Type 0} → Result (P × Option T) OrdInsertionError → Result (OrdEntryKind P × Option T) OrdInsertionError
with_kind (Ok (p, None)) = Ok (New p, None)
with_kind (Ok (p, Some before)) = Ok (Replacing p, Some before)
with_kind (Err refusal) = Err refusal

-- What a call does that inserts an item by its key. The pointer in its result finds the item afterwards, and every other pointer what it
-- found. The result also has the replaced item, if any. A failed call changes nothing.
pub record InsertsByKey {T K P : Type 0} (key : T → K) (cmp : K → K → Ordering) (most : ℕ) (growth : Growth) (numbers : P → ℕ × ℕ)
    (old : Tree T) (item : T) (result : Result (P × Option T) OrdInsertionError) (new : Tree T) : Type 0 where
  pub inserts : InsertsBy key cmp most growth (at_key (key item)) numbers old item (with_kind result) new
  pub updates : IfOk result (λ a. Updates old new (numbers a.0) (Some item))
  pub before : IfOk result (λ a. a.1 ≡ item_of old (numbers a.0))
  pub refused : OnErr result (new ≡ old)
  pub count : IfOk result (λ a. count new ≡ (if is_some a.1 then count old else count old + 1))

-- an item without a key, for an insertion that compares none
abbrev keyless : {T : Type 0} → T → Unit {0}
keyless item = tt

abbrev alike : Unit {0} → Unit {0} → Ordering
alike k l = Equal

-- An insertion beside the entry with an index, or in place of its item, that may grow; the result has the replaced item. No key is
-- compared.
module _ {T : Type 0} (most : ℕ) (i : ℕ) (order : Ordering) where
  abbrev pub InsertsBeside : Tree T → T → Result (Option T) OrdInsertionError → Tree T → Type 0
  InsertsBeside old item (Ok None) new = (p : ℕ × ℕ) × InsertsNew keyless alike most Reallocating (beside i order) old item p new
  InsertsBeside old item (Ok (Some before)) new =
      (p : ℕ × ℕ) × Replaces keyless alike most Reallocating (beside i order) old item p before new
  InsertsBeside old item (Err refusal) new = Refuses keyless alike most Reallocating (beside i order) old refusal new

  -- An insertion directly before or after that entry, under the pointer p. A slot is vacant, so the arena doesn't grow.
  abbrev pub PutsBeside : Tree T → T → ℕ × ℕ → Tree T → Type 0
  PutsBeside old item p new = InsertsNew keyless alike most Within (beside i order) old item p new

-- An insertion as the only entry, under the pointer p. A slot is vacant, so the arena doesn't grow.
abbrev pub PutsAlone : {T : Type 0} → ℕ → Tree T → T → ℕ × ℕ → Tree T → Type 0
PutsAlone most old item p new = InsertsNew keyless alike most Within alone old item p new
