use Rattle.std.proofs.Common.{ap, arith}
use Rattle.agenda.proofs.agenda.Agenda.try_clone.Goals as goal

pub returns-clause-capacity : goal.returns-clause-capacity
returns-clause-capacity g c = rw (← c.self.view_is) (omega (arith, ap (λ t. t.list.capacity) c.in_ok-clone.ensures.ok))
