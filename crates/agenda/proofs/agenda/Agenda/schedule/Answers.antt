use Rattle.std.proofs.Common.{ap}
use Rattle.agenda.specs.Layout.{agenda_of}
use Rattle.agenda.proofs.Stepping.{comes, stays}
use Rattle.agenda.proofs.agenda.Agenda.schedule.Goals.{in-Ok, in-Err}
use Rattle.agenda.proofs.agenda.Agenda.schedule.Goals as goal

pub returns-clause-step : goal.returns-clause-step
returns-clause-step g c = elim c.match-insert_behind.branch [
  | in-Ok w ↦ let puts = w.in-Ok.ensures.puts c.self.invariant in rw (← c.self.view_is) (comes _ _ _ _ puts.free puts.equation)
  | in-Err w ↦ rw (← c.self.view_is) (stays _ _ (ap agenda_of w.in-Err.ensures.err))
]
