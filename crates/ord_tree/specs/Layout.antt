-- How a tree lies in a chain of nodes. No public clause cites this file.
use Rattle.std.specs.Prelude.{◌≡◌, ℕ, Option, None, List, [], ◌∷◌, ◌==◌, if◌then◌else◌, length}
use Rattle.chain_base.specs.Chain.{Entry, Chain}
use Rattle.ord_tree.specs.{declared.node.SimpleOrdArenaNode.SimpleOrdArenaNode as Node, Node.indexes, Node.bare, Node.slots_of, Tree.Tree}
use Rattle.ord_tree.specs.{Slots.Holds, Slots.shape_under, Shape.Shape, Shape.walk, Half.IsRebuilt, Ranks.IsRanked}

module _ {P T I G : Type 0} where
  -- the shape that a chain's nodes form, from this root
  abbrev pub shape_in : Chain (Node P T I G) → Option ℕ → Shape
  shape_in c root = shape_under (length c.entries) (slots_of c) root

  -- the tree that lies in a chain, with this root
  abbrev pub tree_of : Chain (Node P T I G) → Option ℕ → Tree T
  tree_of c root = record { list = bare c; shape = shape_in c root }

  -- the chain's nodes form this shape from this root; its walk is the chain's order, and it obeys the rank rules
  pub record IsLaidOut (c : Chain (Node P T I G)) (root : Option ℕ) (s : Shape) : Type 0 where
    pub held : Holds (slots_of c) None root s
    pub listed : walk s ≡ indexes c.entries
    pub ranked : IsRanked s

  -- From old to new, the tree in the chain is built anew, from this root. The list stays.
  pub record RebuildsChain (old new : Chain (Node P T I G)) (root : Option ℕ) : Type 0 where
    pub laid : IsLaidOut new root (shape_in new root)
    pub rebuilt : IsRebuilt (shape_in new root)
    pub kept : bare new ≡ bare old

  -- the entries with another item in the node at this index
  abbrev pub with_item_below : List (Entry (Node P T I G)) → ℕ → T → List (Entry (Node P T I G))
  with_item_below [] i item = []
  with_item_below (e ∷ es) i item =
      if e.index == i then record e { item = record (e.item) { t = item } } ∷ es else e ∷ with_item_below es i item

  -- the chain with another item in the node at this index
  abbrev pub with_node_item : Chain (Node P T I G) → ℕ → T → Chain (Node P T I G)
  with_node_item c i item = record c { entries = with_item_below c.entries i item }
