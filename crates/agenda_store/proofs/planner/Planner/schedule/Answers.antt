use Rattle.std.proofs.Common.{arith}
use Rattle.agenda_store.specs.Planner.{ticket_at}
use Rattle.agenda_store.proofs.Jobs.{fresh}
use Rattle.agenda_store.proofs.Links.{linked_on}
use Rattle.agenda_store.proofs.planner.Planner.schedule.Goals as goal

pub put-requires-clause-job : goal.put-requires-clause-job
put-requires-clause-job c =
    let old = c.args.self.now in
    record {
      linked = linked_on (ticket_at old) old.next c.in-Some.next old.agenda.entries (omega (arith, c.in-Some.ensures.1)) c.requires.linked;
      short = c.requires.short;
    }

pub put-requires-clause-admitted : goal.put-requires-clause-admitted
put-requires-clause-admitted c =
    let old = c.args.self.now in
    (omega (arith, c.in-Some.ensures.1), fresh old.next old.agenda.entries c.requires.linked.below)
