-- The states of the repair after an insertion. No public clause cites this file.
use Rattle.std.specs.Prelude.{◌≡◌, ℕ, ◌+◌, ◌*◌, ◌^◌, ◌<◌, Option, None, Some, List, length}
use Rattle.ord_tree.specs.Slots.{Slots, Holds, Way, plug, above, HoldsWay, IsOnce, back_at, rank_at, MovesBacks}
use Rattle.ord_tree.specs.{Balance.IsBalanced, Balance.IsBalancedWay, Balance.IsUneven, Shape.Shape, Shape.fork, Shape.rank_of, Shape.walk}
use Rattle.ord_tree.specs.{declared.tree_links.Side.Side, Rotate.Site}

-- the nodes form a balanced tree over this list
pub record IsBuilt (at : Slots) (root : Option ℕ) (order : List ℕ) (slack : ℕ) : Type 0 where
  pub shape : Shape
  pub held : Holds at None root shape
  pub listed : walk shape ≡ order
  pub balanced : IsBalanced slack shape

-- the nodes would form a balanced tree over this list if y were one lower: y has risen, and may be as high as its parent
pub record IsRising (at : Slots) (root : Option ℕ) (y : ℕ) (order : List ℕ) (slack : ℕ) : Type 0 where
  pub way : Way
  pub shape : Shape
  pub low : ℕ
  pub held_way : HoldsWay at root way (Some y)
  pub held : Holds at (above way) (Some y) shape
  pub listed : walk (plug way shape) ≡ order
  pub balanced : IsBalanced slack shape
  pub balanced_way : IsBalancedWay slack way low
  pub risen : rank_of shape ≡ low + 1
  pub uneven : IsUneven shape
  pub once : IsOnce order
  pub few : length order < 2 ^ 64

-- y, on that side of z, has z's rank, and z's other side is two below
pub record IsSteep (at : Slots) (root : Option ℕ) (side : Side) (z y : ℕ) (order : List ℕ) (slack : ℕ) : Type 0 where
  pub site : Site at root side z y
  pub equal : site.low ≡ site.high
  pub sibling : rank_of site.far + 2 ≡ site.high
  pub uneven : 2 * site.low ≡ rank_of site.outer + rank_of site.inner + 3
  pub balanced : IsBalanced slack (fork side site.outer y site.low site.inner)
  pub balanced_far : IsBalanced slack site.far
  pub balanced_way : IsBalancedWay slack site.way site.high
  pub listed : walk (plug site.way (fork side (fork side site.outer y site.low site.inner) z site.high site.far)) ≡ order

-- the tree is balanced again, and at most five nodes have another parent
pub record IsRepaired (old new : Slots) (root : Option ℕ) (order : List ℕ) (slack : ℕ) : Type 0 where
  pub built : IsBuilt new root order slack
  pub backs : MovesBacks 5 old new

-- A step of a repair. For each order of the nodes of which `Before` is true, `After` and `Account` are true afterwards. The list of the
-- nodes stays.
pub record Repairs {O L : Type 0} (Before After : O → Type 0) (Account : (o : O) → Before o → Type 0) (list_old list_new : L) : Type 0 where
  pub after : (o : O) → Before o → After o
  pub account : (o : O) (before : Before o) → Account o before
  pub kept : list_new ≡ list_old

-- z has now risen, above the rank of y; no node has another parent
pub record IsPromoted (old new : Slots) (root : Option ℕ) (y z : ℕ) (order : List ℕ) (slack : ℕ) : Type 0 where
  pub rising : IsRising new root z order slack
  pub backs : (j : ℕ) → back_at old j ≡ back_at new j
  pub higher : rank_at old (Some y) < rank_at new (Some z)
  pub fits : rank_at old (Some y) < 256
