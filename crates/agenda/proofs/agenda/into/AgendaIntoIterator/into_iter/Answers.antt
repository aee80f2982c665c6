use Rattle.std.proofs.Common.{rules}
use Rattle.agenda.specs.Agenda.{given_job}
use Rattle.agenda.proofs.Whole.{iterates}
use Rattle.agenda.proofs.agenda.into.AgendaIntoIterator.into_iter.Goals as goal

pub returns : goal.returns
returns g c = record { into_iter_gives = iterates given_job _ _ (search rules) c.len.ensures.sound }
