use Rattle.std.proofs.Common.{◌≡◌, ◌≤◌, take, length, vec_len, vec_capacity}
use Rattle.std.specs.List.{zip}
use Rattle.arena_c.proofs.run.zipped.Given as goal

-- the pairs so far, and there is room for all
abbrev pub invariant-loop-i : goal.invariant-loop-i
invariant-loop-i l = record {
  items : l.pairs.items ≡ zip (take l.i l.keys) (take l.i l.values);
  counted : vec_len l.pairs ≡ l.i;
  room : length l.keys ≤ vec_capacity l.pairs;
}
