-- The states of the repair after a removal. No public clause cites this file.
use Rattle.std.specs.Prelude.{◌≡◌, ℕ, ◌+◌, ◌^◌, ◌<◌, Option, Some, List, length}
use Rattle.ord_tree.specs.Slots.{Slots, Holds, Way, plug, above, HoldsWay, IsOnce, back_at, rank_at}
use Rattle.ord_tree.specs.{Balance.IsOver, Balance.IsBalanced, Balance.IsBalancedWay, Shape.Shape, Shape.fork, Shape.rank_of, Shape.walk}
use Rattle.ord_tree.specs.{declared.tree_links.Side.Side, Rotate.Site}

-- the nodes would form a balanced tree over this list if that side of y were one higher: it has fallen
pub record IsFallen (at : Slots) (root : Option ℕ) (y : ℕ) (side : Side) (order : List ℕ) : Type 0 where
  pub way : Way
  pub low : Shape
  pub far : Shape
  pub rank : ℕ
  pub held_way : HoldsWay at root way (Some y)
  pub held : Holds at (above way) (Some y) (fork side low y rank far)
  pub listed : walk (plug way (fork side low y rank far)) ≡ order
  pub over : IsOver 1 rank (rank_of low + 1) (rank_of far)
  pub balanced_low : IsBalanced 1 low
  pub balanced_far : IsBalanced 1 far
  pub balanced_way : IsBalancedWay 1 way rank
  pub once : IsOnce order
  pub few : length order < 2 ^ 64

-- the nodes would form a balanced tree over this list if the shape at this link were one higher: its root was demoted, or removed
pub record IsLow (at : Slots) (root link : Option ℕ) (order : List ℕ) : Type 0 where
  pub way : Way
  pub shape : Shape
  pub held_way : HoldsWay at root way link
  pub held : Holds at (above way) link shape
  pub listed : walk (plug way shape) ≡ order
  pub balanced : IsBalanced 1 shape
  pub balanced_way : IsBalancedWay 1 way (rank_of shape + 1)
  pub once : IsOnce order
  pub few : length order < 2 ^ 64

-- y was demoted by one; no node has another parent
pub record IsDemoted (old new : Slots) (root : Option ℕ) (y : ℕ) (order : List ℕ) : Type 0 where
  pub demoted : IsLow new root (Some y) order
  pub rank : rank_of demoted.shape + 1 ≡ rank_at old (Some y)
  pub fits : rank_at old (Some y) < 256
  pub backs : (j : ℕ) → back_at old j ≡ back_at new j

-- y was demoted, so this side of its parent z has now fallen; z is above y's old rank, and no node has another parent
pub record HasDemoted (old new : Slots) (root : Option ℕ) (y z : ℕ) (side : Side) (order : List ℕ) : Type 0 where
  pub fallen : IsFallen new root z side order
  pub higher : rank_at old (Some y) < rank_at new (Some z)
  pub fits : rank_at old (Some y) < 256
  pub backs : (j : ℕ) → back_at old j ≡ back_at new j

-- s, on that side of y, is one below y, and y's other side is three below
pub record IsLeaning (at : Slots) (root : Option ℕ) (side : Side) (y s : ℕ) (order : List ℕ) : Type 0 where
  pub site : Site at root side y s
  pub low : rank_of site.far + 3 ≡ site.high
  pub sibling : site.low + 1 ≡ site.high
  pub over : IsOver 1 site.low (rank_of site.outer) (rank_of site.inner)
  pub balanced_outer : IsBalanced 1 site.outer
  pub balanced_inner : IsBalanced 1 site.inner
  pub balanced_low : IsBalanced 1 site.far
  pub balanced_way : IsBalancedWay 1 site.way site.high
  pub listed : walk (plug site.way (fork side (fork side site.outer s site.low site.inner) y site.high site.far)) ≡ order
  pub once : IsOnce order
  pub few : length order < 2 ^ 64
