-- What becomes of a list of jobs when one leaves, and when it gets another deadline.
use Rattle.std.proofs.Common.{◌≡◌, ◌≢◌, inl, inr, ℕ, ◌<◌, ◌≤◌, eqb, List, [], ◌∷◌, Some, None, refl, ◌∙◌, subst, arith, cond, length, Bool, true, false}
use Rattle.std.specs.List.{AllByRecursion}
use Rattle.std.proofs.lemmas.Bool.{cases_eq}
use Rattle.std.proofs.lemmas.Bool.Decides.{nat_tests}
use Rattle.job_table.specs.Plan.{Job, Plan, put, job_at, without, IsInOrder, HasDistinctNumbers, IsLawful, cancelled}
use Rattle.job_table.specs.Table.{IsInTurn}
use Rattle.job_table.specs.declared.rows.TheConstants.{MAX_BYTES}
use Rattle.job_table.proofs.Jobs.{none_cons, all_put, order_put, distinct_put}

module _ (id : ℕ) where
  pub all_without : (P : Job → Type 0) (jobs : List Job) → AllByRecursion P jobs → AllByRecursion P (without id jobs)
  all_without P [] all = tt
  all_without P (x ∷ jobs) all = go (eqb x.id id) (all_without P jobs all.1)
    where
      go : (b : Bool) → AllByRecursion P (without id jobs) → AllByRecursion P (cond b jobs (x ∷ without id jobs))
      go true more = all.1
      go false more = (all.0, more)

  pub order_without : (jobs : List Job) → IsInOrder jobs → IsInOrder (without id jobs)
  order_without [] order = tt
  order_without (x ∷ jobs) order = go (eqb x.id id) (all_without (λ y. x.deadline ≤ y.deadline) jobs order.0) (order_without jobs order.1)
    where
      go : (b : Bool) → AllByRecursion (λ y. x.deadline ≤ y.deadline) (without id jobs) → IsInOrder (without id jobs) → IsInOrder (cond b jobs (x ∷ without id jobs))
      go true all more = order.1
      go false all more = (all, more)

  pub turn_without : (turn : ℕ → ℕ) (jobs : List Job) → IsInTurn turn jobs → IsInTurn turn (without id jobs)
  turn_without turn [] in_turn = tt
  turn_without turn (x ∷ jobs) in_turn = go (eqb x.id id) (all_without (λ y. x.deadline ≡ y.deadline → turn x.id < turn y.id) jobs in_turn.0) (turn_without turn jobs in_turn.1)
    where
      go : (b : Bool) → AllByRecursion (λ y. x.deadline ≡ y.deadline → turn x.id < turn y.id) (without id jobs) → IsInTurn turn (without id jobs) → IsInTurn turn (cond b jobs (x ∷ without id jobs))
      go true all more = in_turn.1
      go false all more = (all, more)

  pub other_without : (k : ℕ) (jobs : List Job) → k ≢ id → job_at k (without id jobs) ≡ job_at k jobs
  other_without k [] other = refl
  other_without k (x ∷ jobs) other = elim (cases_eq x.id id) [
    | inl same ↦
        let yes : eqb x.id id ≡ true = grind (arith, nat_tests) in
        let no : eqb x.id k ≡ false = grind (arith, nat_tests) in rw (yes, no)
    | inr apart ↦
        let no : eqb x.id id ≡ false = grind (arith, nat_tests) in
        rw (no, other_without k jobs other)
  ]

  pub gone_without : (jobs : List Job) → HasDistinctNumbers jobs → job_at id (without id jobs) ≡ None
  gone_without [] apart = refl
  gone_without (x ∷ jobs) apart = elim (cases_eq x.id id) [
    | inl same ↦ let yes : eqb x.id id ≡ true = grind (arith, nat_tests) in rw yes (subst (λ (n : ℕ). job_at n jobs ≡ None) same apart.0)
    | inr other ↦ let no : eqb x.id id ≡ false = grind (arith, nat_tests) in rw (no, no) (gone_without jobs apart.1)
  ]

  pub distinct_without : (jobs : List Job) → HasDistinctNumbers jobs → HasDistinctNumbers (without id jobs)
  distinct_without [] apart = tt
  distinct_without (x ∷ jobs) apart = elim (cases_eq x.id id) [
    | inl same ↦ let yes : eqb x.id id ≡ true = grind (arith, nat_tests) in rw yes apart.1
    | inr other ↦ let no : eqb x.id id ≡ false = grind (arith, nat_tests) in rw no (other_without x.id jobs other ∙ apart.0, distinct_without jobs apart.1)
  ]

  -- no other job has the number
  pub others_apart : (jobs : List Job) → job_at id jobs ≡ None → AllByRecursion (λ x. x.id ≢ id) jobs
  others_apart [] none = tt
  others_apart (x ∷ jobs) none = let parts = none_cons id x jobs none in (parts.0, others_apart jobs parts.1)

-- what all jobs have, the job of a number has
pub at_all : (P : Job → Type 0) (id : ℕ) (jobs : List Job) (job : Job) → job_at id jobs ≡ Some job → AllByRecursion P jobs → P job
at_all P id [] job is all = absurd (cc)
at_all P id (x ∷ jobs) job is all = go (eqb x.id id) is (λ rest. at_all P id jobs job rest all.1)
  where
    go : (b : Bool) → cond b (Some x) (job_at id jobs) ≡ Some job → (job_at id jobs ≡ Some job → P job) → P job
    go true e more = let same : x ≡ job = cc in subst P same all.0
    go false e more = more e

-- turns that agree on these jobs
pub turn_agrees : (turn now : ℕ → ℕ) (jobs : List Job) → AllByRecursion (λ x. now x.id ≡ turn x.id) jobs → IsInTurn turn jobs → IsInTurn now jobs
turn_agrees turn now [] same in_turn = tt
turn_agrees turn now (first ∷ jobs) same in_turn = (go jobs same.1 in_turn.0, turn_agrees turn now jobs same.1 in_turn.1)
  where
    go : (xs : List Job) → AllByRecursion (λ x. now x.id ≡ turn x.id) xs → AllByRecursion (λ job. first.deadline ≡ job.deadline → turn first.id < turn job.id) xs
        → AllByRecursion (λ job. first.deadline ≡ job.deadline → now first.id < now job.id) xs
    go [] its all = tt
    go (x ∷ xs) its all = (λ e. rw (same.0, its.0) (all.0 e), go xs its.1 all.1)

pub turns_agree : (turn now : ℕ → ℕ) (m : ℕ) (jobs : List Job) → AllByRecursion (λ x. now x.id ≡ turn x.id) jobs → AllByRecursion (λ job. turn job.id < m) jobs → AllByRecursion (λ job. now job.id < m) jobs
turns_agree turn now m [] same all = tt
turns_agree turn now m (x ∷ jobs) same all = (rw same.0 all.0, turns_agree turn now m jobs same.1 all.1)

pub lawful_cancelled : (id : ℕ) (plan : Plan) → IsLawful plan → IsLawful (cancelled id plan)
lawful_cancelled id plan lawful = record {
  in_order = order_without id plan.jobs lawful.in_order;
  distinct = distinct_without id plan.jobs lawful.distinct;
  below = all_without id (λ x. x.id < plan.next) plan.jobs lawful.below;
  short = all_without id (λ x. length x.bytes ≤ MAX_BYTES) plan.jobs lawful.short;
  from_one = lawful.from_one;
}

pub lawful_put : (job : Job) (plan : Plan) → job.id < plan.next → length job.bytes ≤ MAX_BYTES → job_at job.id plan.jobs ≡ None → IsLawful plan
    → IsLawful (record { jobs = put job plan.jobs; next = plan.next })
lawful_put job plan less short none lawful = record {
  in_order = order_put job plan.jobs lawful.in_order;
  distinct = distinct_put job plan.jobs none lawful.distinct;
  below = all_put job (λ x. x.id < plan.next) plan.jobs less lawful.below;
  short = all_put job (λ x. length x.bytes ≤ MAX_BYTES) plan.jobs short lawful.short;
  from_one = lawful.from_one;
}
