-- Generations as numbers: they count from 2, and 1 is kept for pointers that name nothing.
use Rattle.std.specs.Prelude.{◌≡◌, ℕ, ◌+◌, ◌≤◌, Bool, false, Option, Some, None, ◌==◌, if◌then◌else◌}

-- A type of generations is described by its greatest number. The type `()` has none, and its one value counts as 0.

-- the generation of pointers that name nothing
abbrev pub invalid_generation : Option ℕ → ℕ
invalid_generation None = 0
invalid_generation (Some greatest) = 1

-- the generation of a new arena, which also comes after the greatest
abbrev pub first_generation : Option ℕ → ℕ
first_generation None = 0
first_generation (Some greatest) = 2

-- the generation after g
abbrev pub next_generation : Option ℕ → ℕ → ℕ
next_generation None g = g
next_generation (Some greatest) g = if g == greatest then 2 else g + 1

-- whether the generations overflow after g
abbrev pub overflows_after : Option ℕ → ℕ → Bool
overflows_after None g = false
overflows_after (Some greatest) g = g == greatest

-- g may be the generation of an entry or of an arena
abbrev pub IsLawfulGeneration : Option ℕ → ℕ → Type 0
IsLawfulGeneration None g = g ≡ 0
IsLawfulGeneration (Some greatest) g = (2 ≤ g) × (g ≤ greatest)
