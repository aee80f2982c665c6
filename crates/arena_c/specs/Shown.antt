-- Arenas, pointers and entries as C sees them.
use Rattle.std.specs.Prelude.{ℕ, ℤ, List, [], ◌∷◌, Option}
use Rattle.std.specs.Option.{option_map, option_and_then}
use Rattle.sorted_arena.specs.{Chain.Entry as Listed, Sorted.Sorted, Sorted.get}
use Rattle.arena_c.specs.declared.entry.{Pointer.Pointer, Entry.Entry}
-- how many entries there can be, and the greatest generation of a pointer
pub use Rattle.sorted_arena.specs.PlainPointer.{most_entries, greatest_generation}

-- an open arena: keys are signed, values are not
abbrev pub Arena : Type 0
Arena = Sorted ℤ ℕ

-- an arena that was just opened
abbrev pub new_arena : Arena
new_arena = record { entries = []; generation = 2; capacity = 0 }

-- the index and the generation of a pointer of C, and the pointer of such numbers
abbrev pub numbers_of : Pointer → ℕ × ℕ
numbers_of p = (p.index, p.generation)

abbrev pub shown_pointer : ℕ × ℕ → Pointer
shown_pointer p = record { index = p.0; generation = p.1 }

-- the pointer of an entry of an arena's list
abbrev pub pointer_shown : Listed (ℤ × ℕ) → Pointer
pointer_shown e = shown_pointer (e.index, e.generation)

-- an entry of an arena's list, with its pointer
abbrev pub shown_entry : Listed (ℤ × ℕ) → Entry
shown_entry e = record { pointer = shown_pointer (e.index, e.generation); key = e.item.0; value = e.item.1 }

-- the entry at a pointer; None if it is stale
abbrev pub entry_at : Arena → ℕ × ℕ → Option Entry
entry_at a p = option_map (λ pair. record { pointer = shown_pointer p; key = pair.0; value = pair.1 }) (get a p)

-- the entry at the pointer that a search found
abbrev pub entry_found : Arena → Option (ℕ × ℕ) → Option Entry
entry_found a p = option_and_then (entry_at a) p

-- the pointer of the first of some entries, or the one that names none
abbrev pub pointer_to : List (Listed (ℤ × ℕ)) → Pointer
pointer_to [] = shown_pointer (0, 0)
pointer_to (e ∷ es) = shown_pointer (e.index, e.generation)
