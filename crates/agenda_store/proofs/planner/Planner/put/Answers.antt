use Rattle.std.proofs.Common.{◌∙◌, ap, cond, Bool, Some}
use Rattle.std.specs.BTreeMap as tree
use Rattle.std.specs.Ordering.{nat_cmp}
use Rattle.agenda_store.specs.Planner.{ticket_at}
use Rattle.agenda_store.proofs.Jobs.{with_jobs}
use Rattle.agenda_store.proofs.Links.{inserted, came_is, alike}
use Rattle.agenda_store.proofs.planner.Planner.put.Goals as goal

pub returns-clause-plan : goal.returns-clause-plan
returns-clause-plan c =
    let old = c.args.self.now in
    let id = c.args.id in
    let ticket = c.in-Ok.ticket in
    let new = c.schedule.new.self in
    record {
      linked = inserted old c.requires.job.linked id ticket c.args.deadline c.args.attempts c.args.bytes (tree.get nat_cmp c.insert.new.self) new
          c.requires.admitted c.requires.job.short c.in-Ok.ensures.ok
          (λ n. c.in_ok-insert.ensures.updates.0 n ∙ ap (λ (b : Bool). cond b (Some ticket) (ticket_at old n)) (alike id n));
      plan_is = ap (with_jobs old.next) (came_is ticket c.args.deadline (record { id = id; attempts = c.args.attempts; bytes = c.args.bytes }) old.agenda new c.in-Ok.ensures.ok);
    }
