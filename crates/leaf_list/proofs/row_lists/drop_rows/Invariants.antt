use Rattle.std.proofs.Common.{◌≡◌, ◌≤◌, min, take, vec_len}
use Rattle.leaf_list.proofs.row_lists.drop_rows.Given as goal

abbrev pub invariant-loop-rows : goal.invariant-loop-rows
invariant-loop-rows g l = record {
  items : l.rows.items ≡ take (vec_len l.rows) l.initial.rows.items;
  cut : vec_len l.rows ≤ vec_len l.initial.rows;
  within : min l.n (vec_len l.initial.rows) ≤ vec_len l.rows;
}

abbrev pub decreases-loop-rows : goal.decreases-loop-rows
decreases-loop-rows g l = vec_len l.rows
