-- An arena in memory: a vector of slots, the first of which has index 1, and a stack of vacant indexes.
use Rattle.std.specs.Prelude.{◌≡◌, ℕ, ◌+◌, Option, Some, None, List, [], ◌∷◌, map, reverse, slice_index_or, ◌≤◌}
use Rattle.arena_base.specs.{Arena.Arena, declared.slot.Slot.Slot, declared.slot.Slot.TheVariants.Occupied, declared.slot.Slot.TheVariants.Vacant}

-- the entry in a slot, with its generation as a number
abbrev pub entry_in : {T G : Type 0} → (G → ℕ) → Slot T G → Option (ℕ × T)
entry_in number (Occupied generation item) = Some (number generation, item)
entry_in number Vacant = None

-- the arena of these slots; the top of the stack is taken next
abbrev pub arena_of : {T G : Type 0} → (G → ℕ) → List (Slot T G) → List ℕ → G → Option ℕ → Arena T
arena_of number slots stack generation maximum =
    record { slots = None ∷ map (entry_in number) slots; vacant = reverse stack; generation = number generation; maximum = maximum }

module _ {T G : Type 0} where
  -- the indexes of the vacant slots, if the first slot has index `from`
  abbrev pub vacant_slots : ℕ → List (Slot T G) → List ℕ
  vacant_slots from [] = []
  vacant_slots from (Vacant ∷ slots) = from ∷ vacant_slots (from + 1) slots
  vacant_slots from (Occupied generation item ∷ slots) = vacant_slots (from + 1) slots

  -- the slots from position n on are vacant
  abbrev pub AllVacantFrom : ℕ → List (Slot T G) → Type 0
  AllVacantFrom n slots = (k : ℕ) → n ≤ k → slice_index_or slots k Vacant ≡ Vacant

  -- the generation and the item in a slot
  abbrev pub slot_entry : Slot T G → Option (G × T)
  slot_entry (Occupied generation item) = Some (generation, item)
  slot_entry Vacant = None

  -- the slot with another item in its entry
  abbrev pub with_slot_item : Slot T G → T → Slot T G
  with_slot_item (Occupied generation item) new = Occupied generation new
  with_slot_item Vacant new = Vacant

  -- the slot with another generation in its entry
  abbrev pub with_slot_generation : Slot T G → G → Slot T G
  with_slot_generation (Occupied generation item) new = Occupied new item
  with_slot_generation Vacant new = Vacant
