use Rattle.agenda_store.specs.Planner.{ticket_at}
use Rattle.agenda_store.proofs.Links.{linked_on}
use Rattle.agenda_store.proofs.planner.Planner.count_from.Goals as goal

pub returns-clause-linked : goal.returns-clause-linked
returns-clause-linked c =
    let old = c.args.self.now in
    linked_on (ticket_at old) old.next c.args.next old.agenda.entries c.if-next-self.false c.requires
