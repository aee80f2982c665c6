-- The shape that a rebuild makes: each node is in the middle of its run.
use Rattle.std.specs.Prelude.{◌≡◌, ℕ, ◌+◌, ◌-◌, ◌/◌, nat_le, if◌then◌else◌}
use Rattle.ord_tree.specs.{Shape.Shape, Shape.missing, Shape.node, Shape.size_of, Numbers.IsTop}

-- the rank over a run of n nodes: 1, 2, 3, 3 for the first four lengths, and q from five on
abbrev pub half_rank : ℕ → ℕ → ℕ
half_rank n q = if nat_le n 2 then n else (if nat_le n 4 then 3 else q)

-- the root of a run of n nodes is at position n / 2, counted from 0, and its sides are halves one rank below
abbrev pub IsHalf : ℕ → Shape → Type 0
IsHalf q missing = Unit {0}
IsHalf q (node l i k r) =
    let n = size_of l + 1 + size_of r in
    (size_of l ≡ n / 2) × (k ≡ half_rank n q) × IsHalf (q - 1) l × IsHalf (q - 1) r

-- a rebuild of as many nodes makes this shape
abbrev pub IsRebuilt : Shape → Type 0
IsRebuilt s = (q : ℕ) × IsTop (size_of s) q × IsHalf q s
