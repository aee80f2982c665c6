-- Binary trees of indexes and ranks, which the nodes of an arena form together.
use Rattle.std.specs.Prelude.{ℕ, ◌+◌, max, Option, None, Some, List, [], ◌∷◌, ◌++◌}
use Rattle.ord_tree.specs.{declared.tree_links.Side.TheVariants.Lesser, declared.tree_links.Side.TheVariants.Greater, declared.tree_links.Side.Side}

-- a binary tree: empty, or a node with its lesser side, its index, its rank and its greater side
pub data Shape : Type 0 where
  missing : Shape
  node : Shape → ℕ → ℕ → Shape → Shape

-- a node seen from one side: near is its child on that side, far the other
abbrev pub fork : Side → Shape → ℕ → ℕ → Shape → Shape
fork Lesser near i k far = node near i k far
fork Greater near i k far = node far i k near

-- the index at the root
abbrev pub root_of : Shape → Option ℕ
root_of missing = None
root_of (node l i k r) = Some i

-- the rank at the root; an empty shape has rank 0
abbrev pub rank_of : Shape → ℕ
rank_of missing = 0
rank_of (node l i k r) = k

-- the number of nodes
abbrev pub size_of : Shape → ℕ
size_of missing = 0
size_of (node l i k r) = size_of l + 1 + size_of r

-- the in-order traversal: the lesser side, the node, the greater side
abbrev pub walk : Shape → List ℕ
walk missing = []
walk (node l i k r) = walk l ++ i ∷ walk r

-- the number of nodes on the longest path down from the root
abbrev pub height : Shape → ℕ
height missing = 0
height (node l i k r) = max (height l) (height r) + 1
