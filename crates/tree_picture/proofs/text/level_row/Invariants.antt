use Rattle.std.proofs.Common.{◌≡◌, string_bytes, take, flat_map}
use Rattle.tree_picture.specs.Drawing.{level_cell}
use Rattle.tree_picture.proofs.text.level_row.Given as goal

-- the columns so far
abbrev pub invariant-loop-node : goal.invariant-loop-node
invariant-loop-node g l = string_bytes l.row ≡ flat_map (level_cell l.width l.depth) (take l.node-index l.nodes)
