use Rattle.std.proofs.Common.{◌≡◌, take}
use Rattle.tree_picture.specs.Drawing.{widest_label}
use Rattle.tree_picture.proofs.text.widest_label.Given as goal

-- the widest label so far
abbrev pub invariant-loop-node : goal.invariant-loop-node
invariant-loop-node g l = l.widest ≡ widest_label (take l.node-index l.nodes)
