-- The place of an entry in the shape.
use Rattle.std.specs.Prelude.{◌≡◌, ℕ, ◌⊎◌, Option}
use Rattle.ord_tree.specs.{Parents.HasParent, Shape.Shape, Shape.missing, Shape.node, Shape.root_of}

-- `part` is part of the other shape: the whole, or part of one of its sides
abbrev pub IsPart : Shape → Shape → Type 0
IsPart part missing = part ≡ missing
IsPart part (node l i k r) = (part ≡ node l i k r) ⊎ IsPart part l ⊎ IsPart part r

-- the node of index i is in the shape with this parent, sides with these roots, and this rank
pub record IsNodeIn (shape : Shape) (i : ℕ) (parent lesser greater : Option ℕ) (rank : ℕ) : Type 0 where
  pub lesser_side : Shape
  pub greater_side : Shape
  pub part : IsPart (node lesser_side i rank greater_side) shape
  pub has_parent : HasParent shape i parent
  pub lesser_root : lesser ≡ root_of lesser_side
  pub greater_root : greater ≡ root_of greater_side
