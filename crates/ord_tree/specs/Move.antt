-- An entry that moves to another place in the list.
use Rattle.std.specs.Prelude.{◌≡◌, ℕ, ◌<◌, Option, None, List}
use Rattle.ord_tree.specs.{declared.tree_links.Side.Side, Shape.Shape, Shape.walk, Ranks.IsRanked, Parents.MovesAtMost, Potential.ChangesRanksWithin}
use Rattle.ord_tree.specs.{Slots.Slots, Slots.Holds, Slots.times, Slots.IsOnce, Leaf.neighbour_in}

-- What a move of an entry does to the shape. At most fifteen entries get another parent: nine as in a removal, five as in an insertion,
-- and the entry itself. The number of entries whose rank changes, plus the new potential, is at most the old potential plus 14 (9, 4 and
-- 1).
pub record IsRearranged (old new : Shape) : Type 0 where
  pub ranked : IsRanked new
  pub moved : MovesAtMost 15 old new
  pub rank_changes : ChangesRanksWithin 14 old new

-- The nodes form a tree over `order`, which contains y. In the list `whole`, x is between y and y's neighbour on that side. No public
-- clause cites it.
pub record IsAside (at : Slots) (root : Option ℕ) (order whole : List ℕ) (side : Side) (y x : ℕ) : Type 0 where
  pub shape : Shape
  pub held : Holds at None root shape
  pub listed : walk shape ≡ order
  pub once : IsOnce order
  pub within : 0 < times y order
  pub facing : neighbour_in side x whole ≡ neighbour_in side y order
