use Rattle.std.proofs.Common.{◌≡◌, ◌++◌, false, string_bytes, drop}
use Rattle.tree_picture.specs.Drawing.{branch_cells}
use Rattle.tree_picture.proofs.text.branch_row.Given as goal

-- the columns so far, and those that are left
abbrev pub invariant-loop-node : goal.invariant-loop-node
invariant-loop-node g l = string_bytes l.row ++ branch_cells l.width l.depth l.before (drop l.node-index l.nodes) ≡ branch_cells l.width l.depth false l.nodes
