use Rattle.std.proofs.Common.{ap}
use Rattle.agenda.specs.Layout.{agenda_of}
use Rattle.agenda.proofs.Stepping.{empties}
use Rattle.agenda.proofs.agenda.Agenda.clear.Goals as goal

pub returns-clause-step : goal.returns-clause-step
returns-clause-step g c = rw (← c.self.view_is) (empties _ _ (ap agenda_of c.clear.ensures.after))
