-- Laws of every layout.
use Rattle.std.specs.Prelude.{◌≡◌, ℕ, ◌+◌, ◌<◌, ◌≤◌, Option, Some, None, option_and_then, MatchOption, IsSomeAnd, List, All, slice_get}
use Rattle.triple_ord.specs.{Parents.HasParent, Ranks.HasRank}
use Rattle.triple_ord.specs.Shape.{Shape, walk, size_of, height}
use Rattle.tree_picture.specs.declared.place.{Place.Place}
use Rattle.tree_picture.specs.declared.place.TheConstants.{MARGIN, BOX_WIDTH, BOX_HEIGHT}
use Rattle.tree_picture.specs.Layout.{laid, left_of, top_of, width_of, height_of}

-- the layout of a whole tree
abbrev pub layout : Shape → List Place
layout s = laid 0 0 None s

-- the k-th place is in column k, counted from 0
abbrev pub ColumnsLaw : Type 0
ColumnsLaw = (s : Shape) (k : ℕ) (p : Place) → slice_get (layout s) k ≡ Some p → p.column ≡ k

-- the place shows the node of index i: its rank, and the column of its parent
pub record ShowsNode (s : Shape) (p : Place) (i : ℕ) : Type 0 where
  pub rank : HasRank s i p.rank
  pub parent : HasParent s i (option_and_then (slice_get (walk s)) p.parent)

-- each place shows the node that stands at its column in the in-order traversal
abbrev pub NodesLaw : Type 0
NodesLaw = (s : Shape) → All (λ p. IsSomeAnd (slice_get (walk s) p.column) (ShowsNode s p)) (layout s)

-- a place is one level below that of its parent; the root is at the top
abbrev pub IsBelowParent : List Place → Place → Type 0
IsBelowParent places p = MatchOption p.parent (p.depth ≡ 0) (λ q. IsSomeAnd (slice_get places q) (λ parent. p.depth ≡ parent.depth + 1))

abbrev pub LevelsLaw : Type 0
LevelsLaw = (s : Shape) → All (IsBelowParent (layout s)) (layout s)

-- the places of a node's lesser side are left of it, those of its greater side right of it
abbrev pub SidesLaw : Type 0
SidesLaw = (l r : Shape) (from depth : ℕ) (above : Option ℕ) → All (λ p. p.column < from + size_of l) (laid from depth above l)
    × All (λ p. from + size_of l < p.column) (laid (from + size_of l + 1) depth above r)

-- the box of p ends left of where that of q begins
abbrev pub IsLeftOf : Place → Place → Type 0
IsLeftOf p q = left_of p.column + BOX_WIDTH < left_of q.column

-- the boxes of two nodes are side by side, so they don't overlap
abbrev pub ApartLaw : Type 0
ApartLaw = (s : Shape) (k m : ℕ) (p q : Place) → slice_get (layout s) k ≡ Some p → slice_get (layout s) m ≡ Some q → k < m → IsLeftOf p q

-- each box is within the picture, with a margin
pub record IsInside (s : Shape) (p : Place) : Type 0 where
  pub across : left_of p.column + BOX_WIDTH + MARGIN ≤ width_of (size_of s)
  pub down : top_of p.depth + BOX_HEIGHT + MARGIN ≤ height_of (height s)

abbrev pub InsideLaw : Type 0
InsideLaw = (s : Shape) → All (IsInside s) (layout s)
