-- The job of a number, and the first job.
use Rattle.std.proofs.Common.{◌≡◌, inl, inr, ℕ, eqb, leb, List, [], ◌∷◌, Option, Some, None, sym, ◌∙◌, ap, arith, Bool, true, false, cond, is_some}
use Rattle.std.proofs.lemmas.Bool.{cases_eq}
use Rattle.std.proofs.lemmas.Bool.Decides.{nat_tests}
use Rattle.std.proofs.lemmas.Option.{same_Some}
use Rattle.job_table.specs.Plan.{Job, Plan, job_at, put, without, moved, put_at, replaced, cancelled, cancelled_if, without_due, first_due, claimed, claimed_if}
use Rattle.agenda_store.proofs.Jobs.{with_jobs}

pub its_id : (id : ℕ) (jobs : List Job) (job : Job) → job_at id jobs ≡ Some job → job.id ≡ id
its_id id [] job is = absurd (cc)
its_id id (x ∷ jobs) job is = elim (cases_eq x.id id) [
  | inl same ↦
      let yes : eqb x.id id ≡ true = grind (arith, nat_tests) in
      let here : x ≡ job = same_Some _ _ (rw yes at is) in
      sym (ap (λ (j : Job). j.id) here) ∙ same
  | inr other ↦ let no : eqb x.id id ≡ false = grind (arith, nat_tests) in its_id id jobs job (rw no at is)
]

abbrev with_id : ℕ → Job → ℕ → Job
with_id deadline job id = record { id = id; deadline = deadline; attempts = job.attempts; bytes = job.bytes }

-- A job that gets another deadline takes its own place.
pub moved_is : (id deadline : ℕ) (plan : Plan) (job : Job) → job_at id plan.jobs ≡ Some job
    → moved id deadline plan ≡ replaced (record { id = id; deadline = deadline; attempts = job.attempts; bytes = job.bytes }) plan
moved_is id deadline plan job is =
    ap (λ (o : Option Job). with_jobs plan.next (put_at deadline o (without id plan.jobs))) is
    ∙ ap (λ (n : ℕ). with_jobs plan.next (put (with_id deadline job n) (without id plan.jobs))) (its_id id plan.jobs job is)

-- The number of the first job names it.
pub first_at : (now : ℕ) (jobs : List Job) (job : Job) → Some job ≡ first_due now jobs → job_at job.id jobs ≡ Some job
first_at now [] job is = absurd (cc)
first_at now (x ∷ jobs) job is = go (leb x.deadline now) is
  where
    go : (b : Bool) → Some job ≡ cond b (Some x) None → job_at job.id (x ∷ jobs) ≡ Some job
    go false e = absurd (cc)
    go true e =
        let here : job ≡ x = same_Some _ _ e in
        let yes : eqb x.id job.id ≡ true = let same = ap (λ (j : Job). j.id) here in grind (arith, nat_tests, same) in
        rw yes (sym e)

pub claimed_is : (now until : ℕ) (plan : Plan) (job : Job) → Some job ≡ first_due now plan.jobs → claimed_if until (job_at job.id plan.jobs) plan ≡ claimed now until plan
claimed_is now until plan job is = ap (λ (o : Option Job). claimed_if until o plan) (first_at now plan.jobs job is ∙ is)

pub popped_is : (now : ℕ) (plan : Plan) (job : Job) → Some job ≡ first_due now plan.jobs → cancelled job.id plan ≡ without_due now plan
popped_is now plan job is = ap (λ (o : Option Job). cancelled_if o plan) is

pub some_is : (o : Option Job) (job : Job) → o ≡ Some job → is_some o ≡ true
some_is o job is = ap is_some is

pub none_is : (o : Option Job) → None ≡ o → is_some o ≡ false
none_is o is = sym (ap is_some is)
