use Rattle.std.proofs.Common.{◌≡◌, vec_len}
use Rattle.bench_ord.proofs.keys.mixed_from.Given as goal

abbrev pub invariant-loop-i : goal.invariant-loop-i
invariant-loop-i l = vec_len l.keys ≡ l.i
