use Rattle.std.proofs.Common.{◌∙◌, sym, subst}
use Rattle.job_table.specs.Plan.{Plan}
use Rattle.job_table.specs.Table.{Holds}
use Rattle.agenda_store.specs.Planner.{plan_of}
use Rattle.agenda_store.proofs.Absent.{cancelled_none}
use Rattle.agenda_store.proofs.store.Store.cancel.Goals as goal

pub returns-then-not-has-clause-plan : goal.returns-then-not-has-clause-plan
returns-then-not-has-clause-plan g c = rw (← c.self.view_is) (cancelled_none c.args.id.0 (plan_of c.self.inside.planner) (sym c.has.ensures.value ∙ c.if-not-has.true))

pub invariant_of-self-2 : goal.invariant_of-self-2
invariant_of-self-2 g c =
    let old = plan_of c.self.inside.planner in
    let has = c.cancel-job.ensures.plan in
    record {
      linked = λ _. has.linked;
      kept = λ open' clean.
          let was = c.self.invariant.kept c.if-not-self.false (c.cancel.ensures.clean clean) in
          let holds = c.in_ok-cancel.ensures.ok clean old was (sym c.has.ensures.value ∙ c.if-not-has.false) in
          subst (λ (p : Plan). Holds g.S.Store c.cancel.new.self p) (sym has.plan_is) holds;
    }
