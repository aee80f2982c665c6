use Rattle.std.proofs.Common.{◌≡◌, ◌∙◌, ◌<◌, ◌≤◌, sym, subst, ap, rules, arith, length, ℕ, List, Some}
use Rattle.std.specs.Prelude.{⊤}
use Rattle.job_table.specs.Plan.{Plan, Job, replaced, job_at}
use Rattle.job_table.specs.Table.{Holds}
use Rattle.job_table.specs.Causes.{IsCause}
use Rattle.job_table.specs.declared.rows.TheConstants.{MAX_BYTES, MAX_DEADLINE}
use Rattle.job_table.proofs.CallerLemmas.{up, cause_in, at_all}
use Rattle.agenda_store.specs.Planner.{plan_of}
use Rattle.agenda_store.specs.Store.{lent}
use Rattle.agenda_store.proofs.Absent.{moved_none}
use Rattle.agenda_store.proofs.First.{moved_is, some_is, none_is}
use Rattle.agenda_store.proofs.store.Store.reschedule.Goals as goal

pub returns-in_default-clause-plan : goal.returns-in_default-clause-plan
returns-in_default-clause-plan g c =
    let old = plan_of c.self.inside.planner in
    rw (← c.self.view_is) (moved_none c.args.id.0 c.args.deadline old (none_is (job_at c.args.id.0 old.jobs) (search rules)))

abbrev with_bytes : ℕ → ℕ → ℕ → List ℕ → Job
with_bytes id deadline attempts bytes = record { id = id; deadline = deadline; attempts = attempts; bytes = bytes }

pub invariant_of-self-2 : goal.invariant_of-self-2
invariant_of-self-2 g c =
    let old = plan_of c.self.inside.planner in
    let id = c.args.id.0 in
    let deadline = c.args.deadline in
    let has = c.reschedule-found.ensures.plan in
    let job : Job = lent c.in-Some.job in
    let there : job_at id old.jobs ≡ Some job = sym c.in-Some.ensures in
    let bytes : job.bytes ≡ c.deref.result.now = search rules in
    record {
      linked = λ _. has.linked;
      kept = λ open' clean.
          let was = c.self.invariant.kept c.if-not-self.false (c.replace.ensures.clean clean) in
          let holds = c.in_ok-replace.ensures.ok clean old was (some_is (job_at id old.jobs) job there) in
          let same : plan_of c.reschedule-found.new.self ≡ replaced (with_bytes id deadline job.attempts c.deref.result.now) old =
          has.plan_is ∙ moved_is id deadline old job there ∙ ap (λ (b : List ℕ). replaced (with_bytes id deadline job.attempts b) old) bytes in
          subst (λ (p : Plan). Holds g.S.Store c.replace.new.self p) (sym same) holds;
    }

pub returns-in_err-replace-clause-cause : goal.returns-in_err-replace-clause-cause
returns-in_err-replace-clause-cause g c = rw (← c.self.view_is) (up c.from_residual-in_err-replace.result _ _ c.from_residual-in_err-replace.ensures.1 (λ e is clean.
    let old = plan_of c.self.inside.planner in
    let id = c.args.id.0 in
    let job : Job = lent c.in-Some.job in
    let there : job_at id old.jobs ≡ Some job = sym c.in-Some.ensures in
    let was = c.self.invariant.kept c.if-not-self.false (c.replace.ensures.clean clean) in
    let bytes : job.bytes ≡ c.deref.result.now = search rules in
    let short : length job.bytes ≤ MAX_BYTES = at_all (λ x. length x.bytes ≤ MAX_BYTES) id old.jobs job there was.stands.lawful.short in
    let cause = c.in_err-replace.ensures.cause clean old was in
    subst (IsCause _ _ ⊤ ⊥ (MAX_DEADLINE < c.args.deadline)) (sym is)
    (cause_in (λ x. x) (λ x. absurd x) (λ x. tt) (λ long. absurd (omega (arith, subst (λ (b : List ℕ). length b ≤ MAX_BYTES) bytes short, long))) (λ x. x) c.in_err-replace.field-0.0 cause)))
