use Rattle.std.proofs.Common.{◌≡◌, take}
use Rattle.leaf_row.proofs.row.Row.clone_in.Given as goal

-- the row has the clones of the first entries
abbrev pub invariant-loop-i : goal.invariant-loop-i
invariant-loop-i g l = l.row ≡ take l.i l.self
