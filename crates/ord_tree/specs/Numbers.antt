-- The numbers that bound a balanced tree: Fibonacci numbers, binary digits, the top rank of a rebuilt tree.
use Rattle.std.specs.Prelude.{◌≡◌, ℕ, zero, suc, ◌+◌, ◌-◌, ◌^◌, ◌<◌, ◌≤◌}

-- the Fibonacci numbers 0, 1, 1, 2, 3, 5 and so on
abbrev pub fib : ℕ → ℕ
fib zero = 0
fib (suc zero) = 1
fib (suc (suc i)) = fib i + fib (suc i)

-- k is the least number that satisfies P
abbrev pub IsLeast : (ℕ → Type 0) → ℕ → Type 0
IsLeast P k = P k × ((j : ℕ) → j < k → ¬ P j)

-- n has d binary digits: n < 2 ^ d, and n isn't below a lesser power of two
abbrev pub HasDigits : ℕ → ℕ → Type 0
HasDigits n d = IsLeast (λ k. n < 2 ^ k) d

-- q is the top rank for a rebuild of n nodes: one more than the least k with n - 1 ≤ 2 ^ k
abbrev pub IsTop : ℕ → ℕ → Type 0
IsTop n q = (k : ℕ) × (q ≡ k + 1) × IsLeast (λ j. n - 1 ≤ 2 ^ j) k
