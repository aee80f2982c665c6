use Rattle.agenda.specs.Agenda.{shown_job}
use Rattle.agenda.proofs.Whole.{iterates}
use Rattle.agenda.proofs.iter.RefAgendaIntoIterator.into_iter.Goals as goal

pub returns : goal.returns
returns g c = record { into_iter_gives = iterates shown_job _ _ c.iter.ensures.value c.len.ensures.sound }
