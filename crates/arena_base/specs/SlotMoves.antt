-- What a clone and a compression do to the slots in memory. No public clause uses this file.
use Rattle.std.specs.{Prelude.◌≡◌, Prelude.ℕ, Prelude.◌-◌, Prelude.◌≤◌, Prelude.List, Prelude.[], Prelude.◌∷◌, Prelude.◌++◌, Prelude.length, Prelude.map, Prelude.replicate, Prelude.Result, Prelude.OnOk, Prelude.OnErr, Prelude.Option, Prelude.None, List.FoldsTo, declared.alloc.AllocError.AllocError}
use Rattle.arena_base.specs.{declared.slot.Slot.TheVariants.Occupied, declared.slot.Slot.TheVariants.Vacant, Clone.CloneStep, Clone.with_items, Compression.CompressionStep, declared.slot.Slot.Slot, Walk.entries_from, Slot.entry_in}

-- A clone needs n slots: n is the source's greatest index, and the capacity is at least n. `Source` is true of the source, and what makes the
-- items may be called.
pub record CanClone (IsCallable Source : Type 0) (n needed capacity : ℕ) : Type 0 where
  pub callable : IsCallable
  pub source : Source
  pub greatest : n ≡ needed
  pub room : n ≤ capacity

-- The items of a clone were made, or one was refused memory. What makes them may be called again.
pub record MakesItems {R : Type 0} (result : Result R AllocError) (IsCallable After Refused : Type 0) : Type 0 where
  pub callable : IsCallable
  pub ok : OnOk result After
  pub refused : OnErr result Refused

module _ {P T U G F : Type 0} (numbers : P → ℕ × ℕ) (number : G → ℕ) (step : F → P → U → T → F → Type 0) where
  -- The slots are clones of the source's, and the calls left the closure as `last`. The source's other slots, behind these, are vacant.
  pub record ClonesSlots (f : F) (source : List (Option (ℕ × U))) (slots : List (Slot T G)) (last : F) : Type 0 where
    pub items : List T
    pub calls : FoldsTo (CloneStep numbers step) (f, []) (entries_from 0 source) (last, items)
    pub vacant_behind : ℕ
    pub after : with_items source items ≡ None ∷ map (entry_in number) slots ++ replicate vacant_behind None

module _ {P T G F : Type 0} (numbers : P → ℕ × ℕ) (number : G → ℕ) (step : F → P → T → P → T → F → Type 0) (generation : G) where
  -- the entries of all slots moved to the first ones, and the others are vacant
  pub record CompressesSlots (f : F) (old new : List (Slot T G)) : Type 0 where
    pub items : List T
    pub last : F
    pub calls : FoldsTo (CompressionStep numbers step (number generation)) (f, []) (entries_from 1 (map (entry_in number) old)) (last, items)
    pub fits : length items ≤ length old
    pub after : new ≡ map (λ item. Occupied generation item) items ++ replicate (length old - length items) Vacant
