use Rattle.std.proofs.Common.{◌≡◌, ◌∙◌, ◌+◌, sym, subst, ap, rules, ℕ, List, Option, Some}
use Rattle.job_table.specs.Plan.{Plan, Job, claimed_if, replaced, job_at, first_due}
use Rattle.job_table.specs.Table.{Holds}
use Rattle.agenda_store.specs.Planner.{plan_of}
use Rattle.agenda_store.specs.Store.{lent}
use Rattle.agenda_store.proofs.First.{first_at, some_is}
use Rattle.agenda_store.proofs.store.Store.claim_due.Goals as goal

abbrev with_bytes : ℕ → ℕ → ℕ → List ℕ → Job
with_bytes id deadline attempts bytes = record { id = id; deadline = deadline; attempts = attempts; bytes = bytes }

pub invariant_of-self-2 : goal.invariant_of-self-2
invariant_of-self-2 g c =
    let old = plan_of c.self.inside.planner in
    let until = c.args.until in
    let first : Job = lent c.in-Some.first in
    let is : Some first ≡ first_due c.args.now old.jobs = c.in-Some.ensures in
    let there : job_at first.id old.jobs ≡ Some first = first_at c.args.now old.jobs first is in
    let has = c.in_ok-attempt.ensures.plan in
    let bytes : first.bytes ≡ c.deref.result.now = search rules in
    record {
      linked = λ _. has.linked;
      kept = λ open' clean.
          let was = c.self.invariant.kept c.if-not-self.false (c.replace.ensures.clean clean) in
          let holds = c.in_ok-replace.ensures.ok clean old was (some_is (job_at first.id old.jobs) first there) in
          let same : plan_of c.attempt.new.self ≡ replaced (with_bytes first.id until (first.attempts + 1) c.deref.result.now) old =
          has.plan_is ∙ ap (λ (o : Option Job). claimed_if until o old) there
          ∙ ap (λ (b : List ℕ). replaced (with_bytes first.id until (first.attempts + 1) b) old) bytes in
          subst (λ (p : Plan). Holds g.S.Store c.replace.new.self p) (sym same) holds;
    }
