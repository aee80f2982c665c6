use Rattle.std.proofs.Common.{◌≤◌, length}
use Rattle.leaf_row.proofs.row.Row.clear.Given as goal

abbrev pub invariant-loop-self : goal.invariant-loop-self
invariant-loop-self g l = length l.self ≤ 31

abbrev pub decreases-loop-self : goal.decreases-loop-self
decreases-loop-self g l = length l.self
