-- The numbers of the pointer type `P0`: an index of 32 bits and a generation of 64.
use Rattle.std.specs.Prelude.{ℕ, Option, Some}
use Rattle.ord_tree.specs.Generation.{next_generation}

-- the greatest index, which is also how many entries there can be
abbrev pub most_entries : ℕ
most_entries = 4294967294

-- the greatest generation
abbrev pub greatest_generation : Option ℕ
greatest_generation = Some 18446744073709551615

-- the generation after g: one more, and 2 after the greatest
abbrev pub generation_after : ℕ → ℕ
generation_after g = next_generation greatest_generation g
