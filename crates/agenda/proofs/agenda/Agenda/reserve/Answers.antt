use Rattle.agenda.proofs.Stepping.{resizes}
use Rattle.agenda.proofs.agenda.Agenda.reserve.Goals as goal

pub returns-clause-step : goal.returns-clause-step
returns-clause-step g c = rw (← c.self.view_is) (resizes _ _ c.reserve.ensures.entries)
