-- The rank rules and tightness in one definition, for the steps of a repair. No public clause cites this file.
use Rattle.std.specs.Prelude.{◌≡◌, ℕ, ◌+◌, ◌*◌, ◌<◌, ◌≤◌, ◌⊎◌}
use Rattle.ord_tree.specs.{Shape.Shape, Shape.missing, Shape.node, Shape.rank_of, Slots.Way, Slots.top, Slots.up}

-- a node may have rank k over sides of ranks l and r; with slack 0 its two differences are not both 2
pub record IsOver (slack k l r : ℕ) : Type 0 where
  pub lesser : (l < k) × (k ≤ l + 2)
  pub greater : (r < k) × (k ≤ r + 2)
  pub leaf : l ≡ 0 → r ≡ 0 → k ≡ 1
  pub tight : 2 * k ≤ l + r + 3 + slack

-- each node of the shape satisfies `IsOver`
abbrev pub IsBalanced : ℕ → Shape → Type 0
IsBalanced slack missing = Unit {0}
IsBalanced slack (node l i k r) = IsOver slack k (rank_of l) (rank_of r) × IsBalanced slack l × IsBalanced slack r

-- each node of a path satisfies `IsOver`, with this rank at the path's end
abbrev pub IsBalancedWay : ℕ → Way → ℕ → Type 0
IsBalancedWay slack top rank = Unit {0}
IsBalancedWay slack (up side i k far rest) rank =
    IsOver slack k rank (rank_of far) × IsBalanced slack far × IsBalancedWay slack rest k

-- the shape is empty, or its root has rank 1 or the differences 1 and 2
abbrev pub IsUneven : Shape → Type 0
IsUneven missing = Unit {0}
IsUneven (node l i k r) = (k ≡ 1) ⊎ (2 * k ≡ rank_of l + rank_of r + 3)
