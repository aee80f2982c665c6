use Rattle.std.proofs.Common.{◌∙◌, sym, subst, ap, ℕ, List}
use Rattle.job_table.specs.Plan.{Plan, scheduled}
use Rattle.job_table.specs.Table.{Holds}
use Rattle.agenda_store.specs.Planner.{plan_of}
use Rattle.agenda_store.proofs.store.Store.schedule.Goals as goal

pub invariant_of-self-2 : goal.invariant_of-self-2
invariant_of-self-2 g c =
    let old = plan_of c.self.inside.planner in
    let has = c.in_ok-id.ensures.plan in
    record {
      linked = λ _. has.linked;
      kept = λ open' clean.
          let was = c.self.invariant.kept c.if-not-self.false (c.schedule.ensures.clean clean) in
          let holds = c.in_ok-schedule.ensures.ok clean old was in
          let same = has.plan_is ∙ ap (λ (bytes : List ℕ). scheduled c.args.deadline bytes old) c.in_ok-job.ensures.items in
          subst (λ (p : Plan). Holds g.S.Store c.schedule.new.self p) (sym same) holds;
    }
