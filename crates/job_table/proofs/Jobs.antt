-- What becomes of a list of jobs when one more is put.
use Rattle.std.proofs.Common.{◌≡◌, ◌≢◌, inl, inr, ℕ, ◌+◌, ◌<◌, ◌≤◌, leb, eqb, List, [], ◌∷◌, Some, None, refl, arith, cond, length, Bool, true, false}
use Rattle.std.specs.List.{AllByRecursion}
use Rattle.std.proofs.lemmas.Bool.{cases_eq}
use Rattle.std.proofs.lemmas.Bool.Decides.{nat_tests}
use Rattle.job_table.specs.Plan.{Job, Plan, put, job_at, IsInOrder, HasDistinctNumbers, IsLawful, scheduled}
use Rattle.job_table.specs.Table.{IsInTurn}
use Rattle.job_table.specs.declared.rows.TheConstants.{MAX_BYTES}

pub all_weaker : (P Q : Job → Type 0) → ((x : Job) → P x → Q x) → (jobs : List Job) → AllByRecursion P jobs → AllByRecursion Q jobs
all_weaker P Q f [] all = tt
all_weaker P Q f (x ∷ jobs) all = (f x all.0, all_weaker P Q f jobs all.1)

pub none_cons : (id : ℕ) (first : Job) (jobs : List Job) → job_at id (first ∷ jobs) ≡ None → (first.id ≢ id) × (job_at id jobs ≡ None)
none_cons id first jobs none = elim (cases_eq first.id id) [
  | inl same ↦ absurd (grind (arith, nat_tests, none))
  | inr other ↦ (other, grind (arith, nat_tests, none))
]

-- a number above all names no job
pub fresh : (n : ℕ) (jobs : List Job) → AllByRecursion (λ job. job.id < n) jobs → job_at n jobs ≡ None
fresh n [] below = refl
fresh n (x ∷ jobs) below =
    let first = below.0 in
    let rest = fresh n jobs below.1 in
    grind (arith, nat_tests, first, rest)

module _ (job : Job) where
  pub all_put : (P : Job → Type 0) (jobs : List Job) → P job → AllByRecursion P jobs → AllByRecursion P (put job jobs)
  all_put P [] h all = (h, tt)
  all_put P (first ∷ jobs) h all =
      elim (leb first.deadline job.deadline) as (λ b. AllByRecursion P (cond b (first ∷ put job jobs) (job ∷ first ∷ jobs)))
      [ true ↦ (all.0, all_put P jobs h all.1) | false ↦ (h, all) ]

  pub order_put : (jobs : List Job) → IsInOrder jobs → IsInOrder (put job jobs)
  order_put [] order = (tt, tt)
  order_put (first ∷ jobs) order = go (leb first.deadline job.deadline) refl (order_put jobs order.1)
    where
      go : (b : Bool) → leb first.deadline job.deadline ≡ b → IsInOrder (put job jobs) → IsInOrder (cond b (first ∷ put job jobs) (job ∷ first ∷ jobs))
      go true e more = let le : first.deadline ≤ job.deadline = grind (arith, nat_tests, e) in (all_put (λ x. first.deadline ≤ x.deadline) jobs le order.0, more)
      go false e more =
          let later : job.deadline ≤ first.deadline = grind (arith, nat_tests, e) in
          ((later, all_weaker (λ x. first.deadline ≤ x.deadline) (λ x. job.deadline ≤ x.deadline) (λ x h. omega (arith, h, later)) jobs order.0), order)

  pub at_put : (id : ℕ) (jobs : List Job) → job_at job.id jobs ≡ None → job_at id (put job jobs) ≡ cond (eqb job.id id) (Some job) (job_at id jobs)
  at_put id [] none = refl
  at_put id (first ∷ jobs) none = let parts = none_cons job.id first jobs none in go parts.0 (at_put id jobs parts.1) (leb first.deadline job.deadline)
    where
      go : (first.id ≢ job.id) → job_at id (put job jobs) ≡ cond (eqb job.id id) (Some job) (job_at id jobs) → (b : Bool) → job_at id (cond b (first ∷ put job jobs) (job ∷ first ∷ jobs)) ≡ cond (eqb job.id id) (Some job) (job_at id (first ∷ jobs))
      go apart rest false = refl
      go apart rest true =
          elim (cases_eq first.id id) [
            | inl same ↦ grind (arith, nat_tests, rest, apart)
            | inr other ↦ grind (arith, nat_tests, rest, apart)
          ]

  pub distinct_put : (jobs : List Job) → job_at job.id jobs ≡ None → HasDistinctNumbers jobs → HasDistinctNumbers (put job jobs)
  distinct_put [] none apart = (refl, tt)
  distinct_put (first ∷ jobs) none apart =
      let parts = none_cons job.id first jobs none in
      go parts.0 (at_put first.id jobs parts.1) (distinct_put jobs parts.1 apart.1) (leb first.deadline job.deadline)
    where
      go : (first.id ≢ job.id) → job_at first.id (put job jobs) ≡ cond (eqb job.id first.id) (Some job) (job_at first.id jobs) → HasDistinctNumbers (put job jobs) → (b : Bool) → HasDistinctNumbers (cond b (first ∷ put job jobs) (job ∷ first ∷ jobs))
      go other rest more false = (none, apart)
      go other rest more true =
          let here = apart.0 in
          (grind (arith, nat_tests, rest, other, here), more)

  -- a job with the greatest turn is put behind its equals
  pub turn_put : (turn : ℕ → ℕ) (jobs : List Job) → IsInOrder jobs → AllByRecursion (λ x. turn x.id < turn job.id) jobs → IsInTurn turn jobs → IsInTurn turn (put job jobs)
  turn_put turn [] order below in_turn = (tt, tt)
  turn_put turn (first ∷ jobs) order below in_turn = go (leb first.deadline job.deadline) refl (turn_put turn jobs order.1 below.1 in_turn.1)
    where
      go : (b : Bool) → leb first.deadline job.deadline ≡ b → IsInTurn turn (put job jobs) → IsInTurn turn (cond b (first ∷ put job jobs) (job ∷ first ∷ jobs))
      go true e more = (all_put (λ x. first.deadline ≡ x.deadline → turn first.id < turn x.id) jobs (λ _. below.0) in_turn.0, more)
      go false e more =
          let later : job.deadline < first.deadline = grind (arith, nat_tests, e) in
          let behind = all_weaker (λ x. first.deadline ≤ x.deadline) (λ x. job.deadline ≡ x.deadline → turn job.id < turn x.id) (λ x h same. absurd (omega (arith, h, later, same))) jobs order.0 in
          ((λ same. absurd (omega (arith, later, same)), behind), in_turn)

-- turns that agree below a number
pub turn_alike : (turn now : ℕ → ℕ) (n : ℕ) → ((id : ℕ) → id < n → now id ≡ turn id) → (jobs : List Job) → AllByRecursion (λ job. job.id < n) jobs → IsInTurn turn jobs → IsInTurn now jobs
turn_alike turn now n same [] below in_turn = tt
turn_alike turn now n same (first ∷ jobs) below in_turn = (go jobs below.1 in_turn.0, turn_alike turn now n same jobs below.1 in_turn.1)
  where
    go : (xs : List Job) → AllByRecursion (λ job. job.id < n) xs → AllByRecursion (λ job. first.deadline ≡ job.deadline → turn first.id < turn job.id) xs
        → AllByRecursion (λ job. first.deadline ≡ job.deadline → now first.id < now job.id) xs
    go [] less all = tt
    go (x ∷ xs) less all = (λ e. rw (same first.id below.0, same x.id less.0) (all.0 e), go xs less.1 all.1)

pub turns_alike : (turn now : ℕ → ℕ) (n m : ℕ) → ((id : ℕ) → id < n → now id ≡ turn id) → (jobs : List Job) → AllByRecursion (λ job. job.id < n) jobs
    → AllByRecursion (λ job. turn job.id < m) jobs → AllByRecursion (λ job. now job.id < m) jobs
turns_alike turn now n m same [] below all = tt
turns_alike turn now n m same (x ∷ jobs) below all = (rw (same x.id below.0) all.0, turns_alike turn now n m same jobs below.1 all.1)

-- the plan with a new job is lawful
pub lawful_scheduled : (deadline : ℕ) (bytes : List ℕ) (plan : Plan) → length bytes ≤ MAX_BYTES → IsLawful plan → IsLawful (scheduled deadline bytes plan)
lawful_scheduled deadline bytes plan short lawful =
    let job : Job = record { id = plan.next; deadline = deadline; attempts = 0; bytes = bytes } in
    record {
      in_order = order_put job plan.jobs lawful.in_order;
      distinct = distinct_put job plan.jobs (fresh plan.next plan.jobs lawful.below) lawful.distinct;
      below = all_put job (λ x. x.id < plan.next + 1) plan.jobs (omega arith) (all_weaker (λ x. x.id < plan.next) (λ x. x.id < plan.next + 1) (λ x h. omega (arith, h)) plan.jobs lawful.below);
      short = all_put job (λ x. length x.bytes ≤ MAX_BYTES) plan.jobs short lawful.short;
      from_one = omega arith;
    }
