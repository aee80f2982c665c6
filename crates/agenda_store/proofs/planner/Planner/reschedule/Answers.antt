use Rattle.std.proofs.Common.{◌≡◌, ◌∙◌, sym, ap, true, Option, map, is_some}
use Rattle.job_table.specs.Plan.{Job, put_at, without}
use Rattle.agenda_store.specs.Planner.{job_in}
use Rattle.agenda_store.proofs.Jobs.{with_jobs}
use Rattle.agenda_store.proofs.Links.{absent, found, relocated, move_is}
use Rattle.agenda_store.proofs.planner.Planner.reschedule.Goals as goal

pub returns-in-Some : goal.returns-in-Some
returns-in-Some c =
    let old = c.args.self.now in
    let t = c.in-Some.ticket in
    let some = sym c.in-Some.ensures.value in
    let here = found old c.requires c.args.id t c.ticket_at.ensures.distinct some in
    let yes : c.reschedule.result ≡ true = c.reschedule.ensures.value ∙ ap is_some here.job in
    record {
      value = yes ∙ sym (ap (λ (o : Option Job). is_some o) here.at);
      plan = record {
        linked = relocated old c.requires c.args.id t c.ticket_at.ensures.distinct some c.args.deadline c.reschedule.new.self c.reschedule.ensures.after;
        plan_is = ap (with_jobs old.next)
            (move_is old c.requires c.args.id t c.ticket_at.ensures.distinct some c.args.deadline c.reschedule.new.self c.reschedule.ensures.after);
      };
    }

pub returns-in-None : goal.returns-in-None
returns-in-None c =
    let old = c.args.self.now in
    let none = absent old c.requires c.args.id (sym c.in-None.ensures.value) in
    let others = without c.args.id (map job_in old.agenda.entries) in
    record {
      value = sym (ap (λ (o : Option Job). is_some o) none.0);
      plan = record {
        linked = c.requires;
        plan_is = ap (with_jobs old.next) (sym none.1 ∙ ap (λ (o : Option Job). put_at c.args.deadline o others) (sym none.0));
      };
    }
