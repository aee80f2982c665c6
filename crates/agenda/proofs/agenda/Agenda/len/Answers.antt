use Rattle.listing.proofs.CallerLemmas.{held-sound}
use Rattle.agenda.proofs.agenda.Agenda.len.Goals as goal

pub returns-clause-sound : goal.returns-clause-sound
returns-clause-sound g c = rw (← c.self.view_is) (held-sound _ _ _ c.self.inside.jobs c.len.ensures.sound c.self.invariant)
