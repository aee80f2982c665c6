-- Balance with a slack, and the rank rules with and without tightness.
use Rattle.std.proofs.Common.{◌≡◌, ℕ, suc, ◌+◌, ◌-◌, ◌*◌, ◌^◌, ◌<◌, ◌≤◌, arith, inl, inr, ⊎_elim, ◌⊎◌}
use Rattle.std.proofs.{lemmas.Bool.cases_lt, Math.Nat.mul-le-mul}
use Rattle.ord_tree.specs.declared.tree_links.Side.TheVariants.{Lesser, Greater}
use Rattle.ord_tree.specs.{Shape.Shape, Shape.missing, Shape.node, Shape.fork, Shape.rank_of, Shape.size_of, declared.tree_links.Side.Side}
use Rattle.ord_tree.specs.{Balance.IsBalanced, Balance.IsUneven, Ranks.IsRanked, Ranks.IsTight}
use Rattle.ord_tree.proofs.Sizes.{nodes_over_rank}

pub IsRanked-balanced : (slack : ℕ) (s : Shape) → IsBalanced slack s → IsRanked s
IsRanked-balanced slack missing h = tt
IsRanked-balanced slack (node l i k r) h =
    (record { lesser = h.0.lesser; greater = h.0.greater; leaf = h.0.leaf }, IsRanked-balanced slack l h.1, IsRanked-balanced slack r h.2)

pub IsBalanced-ranked : (s : Shape) → IsRanked s → IsBalanced 1 s
IsBalanced-ranked missing h = tt
IsBalanced-ranked (node l i k r) h =
    (record { lesser = h.0.lesser; greater = h.0.greater; leaf = h.0.leaf; tight = omega (arith, h.0.lesser, h.0.greater) }, IsBalanced-ranked l h.1, IsBalanced-ranked r h.2)

pub IsTight-balanced : (s : Shape) → IsBalanced 0 s → IsTight s
IsTight-balanced missing h = tt
IsTight-balanced (node l i k r) h = (
  ⊎_elim (λ (high : rank_of l + 1 < k). inr (omega (arith, h.0.lesser, h.0.greater, h.0.tight))) (λ (low : k ≤ rank_of l + 1). inl (omega (arith, h.0.lesser))) (cases_lt (rank_of l + 1) k),
  IsTight-balanced l h.1,
  IsTight-balanced r h.2,
)

pub IsBalanced-tight : (s : Shape) → IsRanked s → IsTight s → IsBalanced 0 s
IsBalanced-tight missing h t = tt
IsBalanced-tight (node l i k r) h t =
    (record { lesser = h.0.lesser; greater = h.0.greater; leaf = h.0.leaf; tight = omega (arith, h.0.lesser, h.0.greater, t.0) }, IsBalanced-tight l h.1 t.1, IsBalanced-tight r h.2 t.2)

-- a shape of fewer than n nodes has at most rank k, if n * n < 2 ^ (k + 2)
rank-bounded : (s : Shape) (k n : ℕ) → IsRanked s → size_of s < n → n * n < 2 ^ suc (suc k) → rank_of s ≤ k
rank-bounded s k n h few power =
    ⊎_elim (λ (high : k < rank_of s).
    let bound : (size_of s + 1) * (size_of s + 1) ≤ n * n = mul-le-mul {n₂ = n} {m₂ = n} (omega arith) (omega arith) in
    absurd (omega (arith, bound, power, nodes_over_rank s k h (omega arith)))) (λ (low : rank_of s ≤ k). low) (cases_lt k (rank_of s))

-- a rank fits into a byte with room to spare, if the number of nodes fits into a word
pub rank-small : (s : Shape) → IsRanked s → size_of s < 2 ^ 64 → rank_of s < 128
rank-small s h few = omega (arith, rank-bounded s 127 (2 ^ 64) h few (omega arith))

-- it is at most 126 with one node less
pub rank-most : (s : Shape) → IsRanked s → size_of s + 1 < 2 ^ 64 → rank_of s ≤ 126
rank-most s h few = rank-bounded s 126 (2 ^ 64 - 1) h (omega (arith, few)) (omega arith)

pub IsUneven-fork : (side : Side) (near far : Shape) (i k : ℕ) → (k ≡ 1) ⊎ (2 * k ≡ rank_of near + rank_of far + 3) → IsUneven (fork side near i k far)
IsUneven-fork Lesser near far i k h = h
IsUneven-fork Greater near far i k h = ⊎_elim (λ e. inl e) (λ (e : 2 * k ≡ rank_of near + rank_of far + 3). inr (omega arith)) h

pub fork_uneven : (side : Side) (near far : Shape) (i k : ℕ) → IsUneven (fork side near i k far) → (k ≡ 1) ⊎ (2 * k ≡ rank_of near + rank_of far + 3)
fork_uneven Lesser near far i k h = h
fork_uneven Greater near far i k h = ⊎_elim (λ e. inl e) (λ (e : 2 * k ≡ rank_of far + rank_of near + 3). inr (omega arith)) h
