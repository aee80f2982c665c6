-- The rows go on standing for the plan when a job leaves, and when another takes its place.
use Rattle.std.proofs.Common.{◌≡◌, ◌≢◌, inl, inr, ℕ, ◌+◌, ◌<◌, ◌≤◌, ◌==◌, eqb, pos, negsuc, List, [], ◌∷◌, filter, Option, Some, None, refl, sym, subst, ◌∙◌, ap, arith, length, true, false, if◌then◌else◌, IsSome}
use Rattle.std.specs.List.{AllByRecursion}
use Rattle.std.proofs.lemmas.Bool.{cases_eq, false≢true}
use Rattle.std.proofs.lemmas.Bool.Decides.{nat_tests}
use Rattle.sqlite_value.specs.Order.{Row}
use Rattle.sqlite_trees.specs.Tree.{IsTable, has_rowid, put_row, without_rowid}
use Rattle.job_table.specs.Plan.{Job, Plan, job_at, put, without, cancelled, replaced}
use Rattle.job_table.specs.Table.{job_row, next_row, row_of, row_under, StandsBy}
use Rattle.job_table.specs.declared.rows.TheConstants.{MAX_BYTES}
use Rattle.job_table.proofs.Found.{put_found, put_other, deleted_found, deleted_other}
use Rattle.job_table.proofs.Jobs.{fresh, at_put, turn_put, all_put, all_weaker}
use Rattle.job_table.proofs.Leaving.{all_without, order_without, turn_without, other_without, gone_without, others_apart, turn_agrees, turns_agree, lawful_cancelled, lawful_put}
use Rattle.job_table.proofs.Standing.{apart_numbers, apart_signs, with_turn}

-- the next number names no job
pub not_next : (id : ℕ) (plan : Plan) → AllByRecursion (λ x. x.id < plan.next) plan.jobs → IsSome (job_at id plan.jobs) → id ≢ plan.next
not_next id plan below some same = false≢true (subst IsSome (ap (λ (n : ℕ). job_at n plan.jobs) same ∙ fresh plan.next plan.jobs below) some)

module _ (turn : ℕ → ℕ) (rows : List Row) (plan : Plan) (id : ℕ) (h : StandsBy turn rows plan) (some : IsSome (job_at id plan.jobs)) where
  away : id ≢ plan.next
  away = not_next id plan h.lawful.below some

  left : (k : ℕ) → filter (has_rowid (pos k)) (without_rowid (pos id) rows) ≡ row_under turn (cancelled id plan) k
  left k = elim (cases_eq id k) [
    | inl e ↦
        let no : eqb k plan.next ≡ false = grind (arith, nat_tests, away) in
        rw no (subst (λ (n : ℕ). filter (has_rowid (pos n)) (without_rowid (pos id) rows) ≡ row_of (turn n) (job_at n (without id plan.jobs))) e
        (rw (gone_without id plan.jobs h.lawful.distinct) (deleted_found (pos id) rows)))
    | inr other ↦ deleted_other (pos k) (pos id) (apart_numbers id k other) rows ∙ h.each k ∙ rw (other_without id k plan.jobs (λ e. other (sym e)))
  ]

  pub stands_cancelled : StandsBy turn (without_rowid (pos id) rows) (cancelled id plan)
  stands_cancelled = record {
    each = left;
    natural = λ n. deleted_other (negsuc n) (pos id) (apart_signs id n) rows ∙ h.natural n;
    lawful = lawful_cancelled id plan h.lawful;
    in_turn = turn_without id turn plan.jobs h.in_turn;
  }

-- a number that names a job is below whatever all numbers are below
id_below : (id : ℕ) (jobs : List Job) (job : Job) (n : ℕ) → job_at id jobs ≡ Some job → AllByRecursion (λ x. x.id < n) jobs → id < n
id_below id [] job n is all = absurd (cc)
id_below id (x ∷ jobs) job n is all = elim (cases_eq x.id id) [
  | inl same ↦ let first = all.0 in omega (arith, same, first)
  | inr other ↦ let no : eqb x.id id ≡ false = grind (arith, nat_tests) in id_below id jobs job n (rw no at is) all.1
]

module _ (turn : ℕ → ℕ) (now : ℕ) (rows : List Row) (plan : Plan) (job : Job) (h : StandsBy turn rows plan) (table : IsTable rows)
    (some : IsSome (job_at job.id plan.jobs)) (short : length job.bytes ≤ MAX_BYTES) (less : AllByRecursion (λ x. turn x.id < now) plan.jobs) where
  abbrev others : List Job
  others = without job.id plan.jobs

  abbrev new_turn : ℕ → ℕ
  new_turn = with_turn turn job.id now

  not_the_next : job.id ≢ plan.next
  not_the_next = not_next job.id plan h.lawful.below some

  none_left : job_at job.id others ≡ None
  none_left = gone_without job.id plan.jobs h.lawful.distinct

  its_turn : new_turn job.id ≡ now
  its_turn = let itself : eqb job.id job.id ≡ true = grind (arith, nat_tests) in rw itself

  agree : (jobs : List Job) → AllByRecursion (λ x. x.id ≢ job.id) jobs → AllByRecursion (λ x. new_turn x.id ≡ turn x.id) jobs
  agree [] all = tt
  agree (x ∷ jobs) all = let other = all.0 in let no : eqb x.id job.id ≡ false = grind (arith, nat_tests, other) in (rw no, agree jobs all.1)

  same_turns : AllByRecursion (λ x. new_turn x.id ≡ turn x.id) others
  same_turns = agree others (others_apart job.id others none_left)

  anew : (k : ℕ) → filter (has_rowid (pos k)) (put_row (job_row now job) rows) ≡ row_under new_turn (replaced job plan) k
  anew k = elim (cases_eq job.id k) [
    | inl e ↦
        let no : eqb k plan.next ≡ false = grind (arith, nat_tests, not_the_next) in
        let itself : eqb job.id job.id ≡ true = grind (arith, nat_tests) in
        rw no (subst (λ (n : ℕ). filter (has_rowid (pos n)) (put_row (job_row now job) rows) ≡ row_of (new_turn n) (job_at n (put job others))) e
        (put_found (pos job.id) (job_row now job) rows refl table ∙ sym (rw (at_put job job.id others none_left, itself))))
    | inr other ↦
        let no : eqb k job.id ≡ false = grind (arith, nat_tests) in
        let back : eqb job.id k ≡ false = grind (arith, nat_tests) in
        let t : new_turn k ≡ turn k = rw no in
        let j : job_at k (put job others) ≡ job_at k plan.jobs = at_put job k others none_left ∙ rw back (other_without job.id k plan.jobs (λ e. other (sym e))) in
        let row : row_of (turn k) (job_at k plan.jobs) ≡ row_of (new_turn k) (job_at k (put job others)) =
        ap (λ (n : ℕ). row_of n (job_at k plan.jobs)) (sym t) ∙ ap (λ (o : Option Job). row_of (new_turn k) o) (sym j) in
        put_other (pos k) (job_row now job) rows (apart_numbers job.id k other) ∙ h.each k
        ∙ ap (λ (l : List Row). if k == plan.next then next_row plan.next ∷ [] else l) row
  ]

  below_next : (o : Option Job) → job_at job.id plan.jobs ≡ o → IsSome o → job.id < plan.next
  below_next None e some = absurd (false≢true some)
  below_next (Some old) e some = id_below job.id plan.jobs old plan.next e h.lawful.below

  pub stands_replaced : StandsBy new_turn (put_row (job_row now job) rows) (replaced job plan)
  stands_replaced = record {
    each = anew;
    natural = λ n. put_other (negsuc n) (job_row now job) rows (apart_signs job.id n) ∙ h.natural n;
    lawful = lawful_put job (cancelled job.id plan) (below_next (job_at job.id plan.jobs) refl some) short none_left (lawful_cancelled job.id plan h.lawful);
    in_turn = turn_put job new_turn others (order_without job.id plan.jobs h.lawful.in_order)
        (rw its_turn (turns_agree turn new_turn now others same_turns (all_without job.id (λ x. turn x.id < now) plan.jobs less)))
        (turn_agrees turn new_turn others same_turns (turn_without job.id turn plan.jobs h.in_turn));
  }

  pub turns_replaced : AllByRecursion (λ x. new_turn x.id < now + 1) (replaced job plan).jobs
  turns_replaced =
      all_put job (λ x. new_turn x.id < now + 1) others (rw its_turn (omega arith))
      (all_weaker (λ x. new_turn x.id < now) (λ x. new_turn x.id < now + 1) (λ x h. omega (arith, h)) others (turns_agree turn new_turn now others same_turns (all_without job.id (λ x. turn x.id < now) plan.jobs less)))
