-- Nodes that are framed in a picture.
use Rattle.std.specs.Prelude.{◌≡◌, false}
use Rattle.tree_picture.specs.declared.picture.{Node.Node}

-- a node isn't framed
abbrev pub IsUnframed : {P A : Type 0} → Node P A → Type 0
IsUnframed n = n.is_framed ≡ false
