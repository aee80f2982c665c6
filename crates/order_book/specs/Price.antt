-- Which number a price stands for, in a book whose prices may be below zero.
use Rattle.std.specs.Prelude.{◌≡◌, ℕ, ◌≤◌, ℤ, pos, ◌+ℤ◌, ◌≤ℤ◌}

-- a price stands for a number that is 2 to the 63rd less
abbrev pub StandsFor : ℕ → ℤ → Type 0
StandsFor price number = pos price ≡ pos 9223372036854775808 +ℤ number

-- lower prices stand for lower numbers, and for no other ones
abbrev pub PriceOrderLaw : Type 0
PriceOrderLaw = (p q : ℕ) (a b : ℤ) → StandsFor p a → StandsFor q b → ((a ≤ℤ b → p ≤ q) × (p ≤ q → a ≤ℤ b))
