-- A number that names no job.
use Rattle.std.proofs.Common.{◌≡◌, inl, inr, ℕ, false, List, [], ◌∷◌, Option, Some, None, refl, sym, ap, ◌∙◌, arith, is_some}
use Rattle.std.proofs.lemmas.Bool.{cases_eq}
use Rattle.std.proofs.lemmas.Bool.Decides.{nat_tests}
use Rattle.job_table.specs.Plan.{Job, Plan, job_at, without, put_at, cancelled, moved}
use Rattle.agenda_store.proofs.Jobs.{with_jobs}

without_none : (id : ℕ) (jobs : List Job) → is_some (job_at id jobs) ≡ false → without id jobs ≡ jobs
without_none id [] none = refl
without_none id (first ∷ jobs) none = elim (cases_eq first.id id) [
  | inl same ↦ absurd (grind (arith, nat_tests, none))
  | inr other ↦
      let rest = without_none id jobs (grind (arith, nat_tests, none)) in
      grind (arith, nat_tests, rest)
]

none_is : (o : Option Job) → is_some o ≡ false → o ≡ None
none_is None none = refl
none_is (Some job) none = absurd (cc)

pub cancelled_none : (id : ℕ) (plan : Plan) → is_some (job_at id plan.jobs) ≡ false → plan ≡ cancelled id plan
cancelled_none id plan none = ap (with_jobs plan.next) (sym (without_none id plan.jobs none))

pub moved_none : (id deadline : ℕ) (plan : Plan) → is_some (job_at id plan.jobs) ≡ false → plan ≡ moved id deadline plan
moved_none id deadline plan none =
    ap (with_jobs plan.next) (sym (without_none id plan.jobs none) ∙ ap (λ (o : Option Job). put_at deadline o (without id plan.jobs)) (sym (none_is (job_at id plan.jobs) none)))
