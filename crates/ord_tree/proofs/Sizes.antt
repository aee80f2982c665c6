-- Rank rules and sizes: the longest path down, and the fewest nodes for a rank.
use Rattle.std.proofs.Common.{◌≡◌, ℕ, zero, suc, ◌+◌, ◌*◌, ◌^◌, ◌<◌, ◌≤◌, arith, ⊎_elim}
use Rattle.std.proofs.{Math.Nat.mul-le-mul, Math.Nat.mul-le-mul_left, Math.Nat.two-pow-succ, Math.Numerals.add-one, Math.Numerals.add-two}
use Rattle.std.proofs.lemmas.Bool.{cases_lt}
use borrow.Author.Numbers.{squared}
use Rattle.ord_tree.specs.{Shape.Shape, Shape.missing, Shape.node, Shape.rank_of, Shape.size_of, Numbers.fib}
use Rattle.ord_tree.specs.{Laws.HeightLaw, Laws.RankSquareLaw, Laws.TightRankLaw, Ranks.IsRankOver, Ranks.IsRanked, Ranks.IsTight}

pub height-le-rank : HeightLaw
height-le-rank missing h = omega arith
height-le-rank (node l i k r) h = omega (arith, h.0.lesser, h.0.greater, height-le-rank l h.1, height-le-rank r h.2)

-- if two squares are at least x, the square of the sum is at least 4 x
square_of_sum : (a b x : ℕ) → x ≤ a * a → x ≤ b * b → x + x + (x + x) ≤ (a + b) * (a + b)
square_of_sum a b x p q =
    ⊎_elim (λ (less : a < b). let h : a * a ≤ a * b = mul-le-mul_left a (omega arith) in omega arith)
    (λ (more : b ≤ a). let h : b * b ≤ b * a = mul-le-mul_left b more in omega arith) (cases_lt a b)

four_powers : (j : ℕ) → 2 ^ suc (suc j) ≡ 2 ^ j + 2 ^ j + (2 ^ j + 2 ^ j)
four_powers j = let e = two-pow-succ j in let d = two-pow-succ (suc j) in omega arith

-- a positive rank means a node
size-positive : (s : Shape) → 0 < rank_of s → 0 < size_of s
size-positive missing b = b
size-positive (node l i k r) b = omega arith

-- a rank above 1 needs a child
two_nodes : (l r : Shape) (k : ℕ) → IsRankOver k (rank_of l) (rank_of r) → 2 ≤ k → 1 ≤ size_of l + size_of r
two_nodes l r k h b =
    ⊎_elim (λ (some : 0 < rank_of l). omega (arith, size-positive l some))
    (λ (none : rank_of l ≤ 0). ⊎_elim (λ (some : 0 < rank_of r). omega (arith, size-positive r some))
    (λ (empty : rank_of r ≤ 0). absurd (omega (arith, h.leaf (omega arith) (omega arith)))) (cases_lt 0 (rank_of r)))
    (cases_lt 0 (rank_of l))

-- the square of one more than the size of a shape of rank above j is at least 2 ^ (j + 2)
pub nodes_over_rank : (s : Shape) (j : ℕ) → IsRanked s → suc j ≤ rank_of s → 2 ^ (suc (suc j)) ≤ (size_of s + 1) * (size_of s + 1)
nodes_over_rank missing j h b = absurd (omega (arith, b))
nodes_over_rank (node l i k r) zero h b =
    let four : 2 * 2 ≤ (size_of l + 1 + size_of r + 1) * (size_of l + 1 + size_of r + 1) = mul-le-mul {n₁ = 2} {m₁ = 2} (omega arith) (omega arith) in
    omega (arith, four)
nodes_over_rank (node l i k r) (suc zero) h b =
    let some = two_nodes l r k h.0 b in
    let nine : 3 * 3 ≤ (size_of l + 1 + size_of r + 1) * (size_of l + 1 + size_of r + 1) = mul-le-mul {n₁ = 3} {m₁ = 3} (omega arith) (omega arith) in
    omega (arith, nine)
nodes_over_rank (node l i k r) (suc (suc j)) h b =
    let lesser = nodes_over_rank l j h.1 (omega (arith, h.0.lesser, b)) in
    let greater = nodes_over_rank r j h.2 (omega (arith, h.0.greater, b)) in
    omega (arith, four_powers (suc (suc j)), square_of_sum (size_of l + 1) (size_of r + 1) (2 ^ suc (suc j)) lesser greater)

pub square-ge-power : RankSquareLaw
square-ge-power missing h b = absurd (omega (arith, b))
square-ge-power (node l i zero r) h b = absurd (omega (arith, h.0.lesser))
square-ge-power (node l i (suc k) r) h b = rw (add-one (suc k), squared) (nodes_over_rank (node l i (suc k) r) k h (omega arith))

fib-le-nodes : (s : Shape) (j : ℕ) → IsRanked s → IsTight s → j ≤ rank_of s → fib (suc (suc j)) ≤ size_of s + 1
fib-le-nodes missing zero h t b = omega arith
fib-le-nodes missing (suc j) h t b = absurd (omega (arith, b))
fib-le-nodes (node l i k r) zero h t b = omega arith
fib-le-nodes (node l i k r) (suc zero) h t b = omega arith
fib-le-nodes (node l i k r) (suc (suc j)) h t b =
    ⊎_elim (λ (high : suc j < rank_of l + 1). omega (arith, fib-le-nodes l (suc j) h.1 t.1 (omega arith), fib-le-nodes r j h.2 t.2 (omega (arith, h.0.greater, b))))
    (λ (low : rank_of l + 1 ≤ suc j). omega (arith, fib-le-nodes r (suc j) h.2 t.2 (omega (arith, h.0.lesser, h.0.greater, t.0, b)), fib-le-nodes l j h.1 t.1 (omega (arith, h.0.lesser, b))))
    (cases_lt (suc j) (rank_of l + 1))

pub fib-le-size : TightRankLaw
fib-le-size s h t = rw add-two (fib-le-nodes s (rank_of s) h t (omega arith))
