use Rattle.std.proofs.Common.{◌≡◌, ◌≤◌, take, vec_capacity}
use Rattle.leaf_list.proofs.row_lists.clone_rows.Given as goal

abbrev pub invariant-loop-i : goal.invariant-loop-i
invariant-loop-i g l = record {
  items : l.clones.items ≡ take l.i l.rows;
  capacity : l.n ≤ vec_capacity l.clones;
}
