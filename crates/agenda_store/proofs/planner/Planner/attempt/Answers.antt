use Rattle.std.proofs.Common.{◌≡◌, ◌∙◌, ◌+◌, sym, ap, ℕ, List, Option, Some, None}
use Rattle.std.specs.Option.{option_map}
use Rattle.job_table.specs.Plan.{Job, put, without, job_at, kept, claimed_if}
use Rattle.job_table.proofs.CallerLemmas.{of_ok}
use Rattle.agenda_store.specs.Planner.{plan_of}
use Rattle.agenda_store.specs.Store.{owned}
use Rattle.agenda_store.proofs.Absent.{cancelled_none}
use Rattle.agenda_store.proofs.First.{its_id, none_is}
use Rattle.agenda_store.proofs.Jobs.{with_jobs}
use Rattle.agenda_store.proofs.planner.Planner.attempt.Goals as goal

abbrev job_with : ℕ → ℕ → ℕ → List ℕ → Job
job_with id deadline attempts bytes = record { id = id; deadline = deadline; attempts = attempts; bytes = bytes }

pub returns-in_default : goal.returns-in_default
returns-in_default c =
    let old = plan_of c.args.self.now in
    let has = c.in_default.ensures.plan in
    let none : None ≡ job_at c.args.id old.jobs = ap (λ o. option_map owned o) (sym c.in_default.is) ∙ c.cancel.ensures.value in
    record {
      plan = record {
        linked = has.linked;
        plan_is = has.plan_is ∙ sym (cancelled_none c.args.id old (none_is (job_at c.args.id old.jobs) none)) ∙ ap (λ (o : Option Job). claimed_if c.args.until o old) none;
      };
      err = tt;
    }

pub returns : goal.returns
returns c =
    let old = plan_of c.args.self.now in
    let id = c.args.id in
    let until = c.args.until in
    let job : Job = owned c.in-Some.job in
    let there : job_at id old.jobs ≡ Some job = sym c.in-Some.ensures.value in
    let others = without id old.jobs in
    let same : kept (job_with job.id until (job.attempts + 1) job.bytes) (plan_of c.cancel.new.self) ≡ claimed_if until (job_at id old.jobs) old =
    ap (kept (job_with job.id until (job.attempts + 1) job.bytes)) c.in-Some.ensures.plan.plan_is
    ∙ ap (λ (n : ℕ). with_jobs old.next (put (job_with job.id until (job.attempts + 1) job.bytes) (without n old.jobs))) (sym (its_id id old.jobs job there))
    ∙ ap (λ (o : Option Job). claimed_if until o old) (sym there) in
    record {
      plan = of_ok c.put.result _ _ (λ has. record { linked = has.linked; plan_is = has.plan_is ∙ ap (λ (n : ℕ). kept (job_with job.id until n job.bytes) (plan_of c.cancel.new.self)) c.in-Some-checked_add.ensures.1 ∙ same }) c.put.ensures.plan;
      err = c.put.ensures.err;
    }
