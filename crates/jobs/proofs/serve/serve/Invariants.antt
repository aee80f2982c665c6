use Rattle.std.proofs.Common.{string_bytes}
use Rattle.jobs.proofs.Come.{HasCome}
use Rattle.jobs.proofs.serve.serve.Given as goal

abbrev pub invariant-lines : goal.invariant-lines
invariant-lines g l = HasCome g.S.Store l.style l.fn.store l.store (g.W.Write.contents l.fn.out) (g.W.Write.contents l.out) (string_bytes l.batch.answers)
