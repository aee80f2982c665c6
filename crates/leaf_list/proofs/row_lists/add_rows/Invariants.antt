use Rattle.std.proofs.Common.{◌≡◌, ◌≤◌, ◌-◌, ℕ, [], get_or, vec_len, vec_capacity}
use Rattle.leaf_list.proofs.row_lists.add_rows.Given as goal

abbrev pub invariant-loop-alloc : goal.invariant-loop-alloc
invariant-loop-alloc g l = record {
  kept : (i : ℕ) → get_or l.rows.items i [] ≡ get_or l.initial.rows.items i [];
  longer : vec_len l.initial.rows ≤ vec_len l.rows;
  within : vec_len l.rows ≤ l.n;
  capacity : l.n ≤ vec_capacity l.rows;
}

abbrev pub decreases-loop-alloc : goal.decreases-loop-alloc
decreases-loop-alloc g l = l.n - vec_len l.rows
