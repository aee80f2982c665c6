-- Removing a node: the list without it, and what takes its place. No public clause cites this file.
use Rattle.std.specs.Prelude.{◌≡◌, ℕ, ◌^◌, ◌<◌, ◌≤◌, ◌==◌, if◌then◌else◌, Option, None, Some, List, [], ◌∷◌, length, IsSome}
use Rattle.ord_tree.specs.{Slots.Slots, Slots.Holds, Slots.times, Slots.times_in, Slots.IsOnce, Slots.MovesBacks, declared.tree_links.TreeLinks.TreeLinks}
use Rattle.ord_tree.specs.{Shape.Shape, Shape.missing, Shape.node, declared.tree_links.Side.Side, TreeLinks.child_at, Promote.IsBuilt, Leaf.previous}

-- the list without this index
abbrev pub without : ℕ → List ℕ → List ℕ
without i [] = []
without i (j ∷ js) = if j == i then js else j ∷ without i js

-- v replaces z
abbrev pub stand_in : ℕ → ℕ → ℕ → ℕ
stand_in z v j = if j == z then v else j

-- the shape with v in place of z
abbrev pub renamed : ℕ → ℕ → Shape → Shape
renamed z v missing = missing
renamed z v (node l i k r) = node (renamed z v l) (stand_in z v i) k (renamed z v r)

-- v is in a balanced tree and has no child on that side
pub record IsLoose (at : Slots) (root : Option ℕ) (v : ℕ) (side : Side) (order : List ℕ) : Type 0 where
  pub built : IsBuilt at root order 1
  pub within : 0 < times v order
  pub bare : (n : TreeLinks ℕ) → at v ≡ Some n → child_at side n ≡ None
  pub once : IsOnce order
  pub few : length order < 2 ^ 64

-- z is in the tree that the nodes form, and the node v isn't
pub record CanStandIn (at : Slots) (root : Option ℕ) (z v : ℕ) (s : Shape) : Type 0 where
  pub held : Holds at None root s
  pub within : 0 < times_in z s
  pub fresh : times_in v s ≡ 0
  pub apart : (j : ℕ) → times_in j s ≤ 1
  pub spare : IsSome (at v)

-- In each shape in which v can stand in for z, v has taken the place of z, and at most three nodes have another parent. The list of the
-- nodes stays.
pub record StandsIn {L : Type 0} (z v : ℕ) (old new : Slots) (root_old root_new : Option ℕ) (list_old list_new : L) : Type 0 where
  pub held : (s : Shape) → CanStandIn old root_old z v s → Holds new None root_new (renamed z v s)
  pub backs : (s : Shape) → CanStandIn old root_old z v s → MovesBacks 3 old new
  pub kept : list_new ≡ list_old

-- z is in a balanced tree, and `before` is its predecessor in the list
pub record IsDetachable (at : Slots) (root : Option ℕ) (z : ℕ) (before : Option ℕ) (order : List ℕ) : Type 0 where
  pub built : IsBuilt at root order 1
  pub within : 0 < times z order
  pub once : IsOnce order
  pub few : length order < 2 ^ 64
  pub is_before : before ≡ previous None z order

-- A node is taken out of the tree. For each order of the nodes of which `Before` is true, `After` and `Account` are true afterwards, and
-- at most `most` nodes have another parent. The list of the nodes stays.
pub record TakesOut {L : Type 0} (Before After : List ℕ → Type 0) (Account : (order : List ℕ) → Before order → Type 0)
    (most : ℕ) (old new : Slots) (list_old list_new : L) : Type 0 where
  pub after : (order : List ℕ) → Before order → After order
  pub account : (order : List ℕ) (before : Before order) → Account order before
  pub backs : (order : List ℕ) → Before order → MovesBacks most old new
  pub kept : list_new ≡ list_old
