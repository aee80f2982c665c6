-- The rank rules of the balance (Haeupler, Sen and Tarjan, "Rank-balanced trees", 2015, ranks shifted by one).
use Rattle.std.specs.Prelude.{◌≡◌, ℕ, ◌+◌, ◌<◌, ◌≤◌, ◌⊎◌}
use Rattle.ord_tree.specs.Shape.{Shape, missing, node, rank_of}

-- the node of index i is in the shape and has rank k
abbrev pub HasRank : Shape → ℕ → ℕ → Type 0
HasRank missing i k = ⊥
HasRank (node l j m r) i k = (i ≡ j) × (k ≡ m) ⊎ HasRank l i k ⊎ HasRank r i k

-- a node may have rank k over sides of ranks l and r
pub record IsRankOver (k l r : ℕ) : Type 0 where
  -- the rank exceeds that of each side by 1 or 2
  pub lesser : (l < k) × (k ≤ l + 2)
  pub greater : (r < k) × (k ≤ r + 2)
  -- a node without children has rank 1
  pub leaf : l ≡ 0 → r ≡ 0 → k ≡ 1

-- the rank rules hold at each node
abbrev pub IsRanked : Shape → Type 0
IsRanked missing = Unit {0}
IsRanked (node l i k r) = IsRankOver k (rank_of l) (rank_of r) × IsRanked l × IsRanked r

-- tight: at each node at least one of the two rank differences is 1, so no node has both differences 2
abbrev pub IsTight : Shape → Type 0
IsTight missing = Unit {0}
IsTight (node l i k r) = ((k ≡ rank_of l + 1) ⊎ (k ≡ rank_of r + 1)) × IsTight l × IsTight r
