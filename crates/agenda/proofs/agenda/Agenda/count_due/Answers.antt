use Rattle.std.proofs.Common.{inl, arith, ap, length}
use Rattle.agenda.proofs.Reached.{fewer-due}
use Rattle.agenda.proofs.agenda.Agenda.count_due.Goals as goal

pub count-requires-clause-fits : goal.count-requires-clause-fits
count-requires-clause-fits g c = inl (omega (arith, ap length c.due.ensures, fewer-due c.args.now c.args.self.now.entries, c.len.type_inv, c.len.ensures.value))
