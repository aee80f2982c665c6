use Rattle.std.proofs.Common.{◌≡◌, string_bytes}
use Rattle.tree_picture.specs.Drawing.{levels_above}
use Rattle.tree_picture.proofs.text.text_of.Given as goal

-- the levels so far
abbrev pub invariant-loop-depth : goal.invariant-loop-depth
invariant-loop-depth g l = string_bytes l.text ≡ levels_above l.width l.nodes l.depth
