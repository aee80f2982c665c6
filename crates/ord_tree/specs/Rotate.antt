-- The state before a rotation and the state after it. No public clause cites this file.
use Rattle.std.specs.Prelude.{◌≡◌, ℕ, ◌⊎◌, Option, Some}
use Rattle.ord_tree.specs.Slots.{Slots, Holds, Way, above, HoldsWay, back_at, IsApart}
use Rattle.ord_tree.specs.{Shape.Shape, Shape.fork, Shape.root_of, declared.tree_links.Side.Side}

-- z is at the end of a path, and y on that side of it; `outer` is y's child on the same side, and `inner` the other
pub record Site (at : Slots) (root : Option ℕ) (side : Side) (z y : ℕ) : Type 0 where
  pub way : Way
  pub outer : Shape
  pub inner : Shape
  pub far : Shape
  pub low : ℕ
  pub high : ℕ
  pub held_way : HoldsWay at root way (Some z)
  pub held : Holds at (above way) (Some z) (fork side (fork side outer y low inner) z high far)
  pub apart : IsApart way (fork side (fork side outer y low inner) z high far)

-- y has taken z's place, z is y's child on the other side with `inner` below it, and both have their new ranks
pub record IsRotated {old : Slots} {old_root : Option ℕ} {side : Side} {z y : ℕ} (site : Site old old_root side z y) (new : Slots) (root : Option ℕ) (rank_z rank_y : ℕ) : Type 0 where
  pub held_way : HoldsWay new root site.way (Some y)
  pub held : Holds new (above site.way) (Some y) (fork side site.outer y rank_y (fork side site.inner z rank_z site.far))
  -- no other node than z, y and the root of `inner` has another parent
  pub backs : (j : ℕ) → (j ≡ z) ⊎ (j ≡ y) ⊎ (root_of site.inner ≡ Some j) ⊎ (back_at old j ≡ back_at new j)

-- A rotation: if z and y form a site, y has taken z's place, and each has its new rank. The list of the nodes stays.
pub record Rotates {L : Type 0} (side : Side) (z y rank_z rank_y : ℕ) (old new : Slots) (root_old root_new : Option ℕ)
    (list_old list_new : L) : Type 0 where
  pub rotated : (site : Site old root_old side z y) → IsRotated site new root_new rank_z rank_y
  pub kept : list_new ≡ list_old
