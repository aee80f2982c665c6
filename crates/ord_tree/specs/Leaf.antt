-- A new leaf: its place in the list, and the state in which it is attached. No public clause cites this file.
use Rattle.std.specs.Prelude.{◌≡◌, ℕ, ◌+◌, ◌^◌, ◌<◌, ◌==◌, if◌then◌else◌, Option, None, Some, List, [], ◌∷◌, length}
use Rattle.ord_tree.specs.{declared.tree_links.Side.TheVariants.Lesser, declared.tree_links.Side.TheVariants.Greater, TreeLinks.child_at}
use Rattle.ord_tree.specs.{declared.tree_links.TreeLinks.TreeLinks, Slots.Slots, Slots.times, Slots.IsOnce, declared.tree_links.Side.Side, Promote.IsBuilt}

-- two consecutive indexes, with x on that side of y
abbrev pub paired : Side → ℕ → ℕ → List ℕ → List ℕ
paired Lesser y x rest = x ∷ y ∷ rest
paired Greater y x rest = y ∷ x ∷ rest

-- the list with x directly beside y, on that side
abbrev pub beside : Side → ℕ → ℕ → List ℕ → List ℕ
beside side y x [] = []
beside side y x (i ∷ is) = if i == y then paired side y x is else i ∷ beside side y x is

-- the first element of a list
abbrev pub list_head : List ℕ → Option ℕ
list_head [] = None
list_head (i ∷ is) = Some i

-- the index directly before this one, or `first` if it begins the list
abbrev pub previous : Option ℕ → ℕ → List ℕ → Option ℕ
previous first i [] = None
previous first i (j ∷ js) = if j == i then first else previous (Some j) i js

-- the index directly after this one, if any
abbrev pub following : ℕ → List ℕ → Option ℕ
following i [] = None
following i (j ∷ js) = if j == i then list_head js else following i js

-- the neighbour on that side, if any
abbrev pub neighbour_in : Side → ℕ → List ℕ → Option ℕ
neighbour_in Lesser i order = previous None i order
neighbour_in Greater i order = following i order

-- the links of a leaf
abbrev pub leaf_links : Option ℕ → TreeLinks ℕ
leaf_links back = record { back = back; lesser = None; greater = None; rank = 1 }

-- y is in a balanced tree and has no child on that side; x is a leaf whose parent link is y
pub record IsNewLeaf (at : Slots) (root : Option ℕ) (side : Side) (y x : ℕ) (order : List ℕ) (slack : ℕ) : Type 0 where
  pub built : IsBuilt at root order slack
  pub within : 0 < times y order
  pub bare : (n : TreeLinks ℕ) → at y ≡ Some n → child_at side n ≡ None
  pub leaf : at x ≡ Some (leaf_links (Some y))
  pub fresh : times x order ≡ 0
  pub once : IsOnce order
  pub few : length order + 1 < 2 ^ 64
