use Rattle.agenda.proofs.Ended.{ended_ticket}
use Rattle.agenda.proofs.laws.ended_ticket_law.Goals as goal

pub returns : goal.returns
returns g c = ended_ticket _
