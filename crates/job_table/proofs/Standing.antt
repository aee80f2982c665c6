-- The rows go on standing for the plan.
use Rattle.std.proofs.Common.{◌≡◌, ◌≢◌, inl, inr, ℕ, ℤ, ◌+◌, ◌<◌, ◌≤◌, ◌==◌, eqb, pos, negsuc, List, [], ◌∷◌, filter, None, refl, sym, subst, ◌∙◌, arith, length, true, false, Ordering, Less, Equal, Greater, is_eq, if◌then◌else◌}
use Rattle.std.specs.List.{AllByRecursion}
use Rattle.std.specs.Ordering.{int_cmp, MatchOrdering}
use Rattle.std.specs.Cmp.{int_ranks}
use Rattle.std.specs.Int.Signed.{◌<ℤ◌}
use Rattle.std.proofs.lemmas.Bool.{cases_eq}
use Rattle.std.proofs.lemmas.Bool.Decides.{nat_tests}
use Rattle.sqlite_value.specs.declared.value.Value.TheVariants.{Int}
use Rattle.sqlite_value.specs.Order.{Row, value_cmp}
use Rattle.sqlite_value.proofs.OrderLemmas.{value_cmp-Int}
use Rattle.sqlite_trees.specs.Tree.{IsTable, has_rowid, put_row}
use Rattle.sqlite_trees.proofs.TreeLemmas.{IsTable-put_row}
use Rattle.job_table.specs.Plan.{Job, Plan, job_at, put, scheduled}
use Rattle.job_table.specs.Table.{job_row, next_row, row_of, row_under, StandsBy}
use Rattle.job_table.specs.declared.rows.TheConstants.{MAX_BYTES}
use Rattle.job_table.proofs.Found.{put_found, put_other}
use Rattle.job_table.proofs.Jobs.{fresh, at_put, turn_put, turn_alike, turns_alike, all_put, all_weaker, lawful_scheduled}

pub apart_ints : (x y : ℤ) → x ≢ y → is_eq (value_cmp (Int x) (Int y)) ≡ false
apart_ints x y other = rw (value_cmp-Int x y) (go (int_cmp x y) (int_ranks x y))
  where
    go : (o : Ordering) → MatchOrdering o (x <ℤ y) (x ≡ y) (y <ℤ x) → is_eq o ≡ false
    go Less h = refl
    go Equal h = absurd (other h)
    go Greater h = refl

pub apart_numbers : (a b : ℕ) → a ≢ b → is_eq (value_cmp (Int (pos a)) (Int (pos b))) ≡ false
apart_numbers a b other = apart_ints (pos a) (pos b) (λ e. other (cc))

pub apart_signs : (a n : ℕ) → is_eq (value_cmp (Int (pos a)) (Int (negsuc n))) ≡ false
apart_signs a n = apart_ints (pos a) (negsuc n) (λ e. absurd (cc))

-- the turns, with one more
abbrev pub with_turn : (ℕ → ℕ) → ℕ → ℕ → ℕ → ℕ
with_turn turn id now at = if at == id then now else turn at

module _ (turn : ℕ → ℕ) (now : ℕ) (rows : List Row) (plan : Plan) (deadline : ℕ) (bytes : List ℕ) (h : StandsBy turn rows plan) (table : IsTable rows) where
  abbrev job : Job
  job = record { id = plan.next; deadline = deadline; attempts = 0; bytes = bytes }

  abbrev with_job : List Row
  with_job = put_row (job_row now job) rows

  abbrev turns : ℕ → ℕ
  turns = with_turn turn plan.next now

  same : (id : ℕ) → id < plan.next → turns id ≡ turn id
  same id less = let apart : eqb id plan.next ≡ false = grind (arith, nat_tests) in rw apart

  at_next : turns plan.next ≡ now
  at_next = let itself : eqb plan.next plan.next ≡ true = grind (arith, nat_tests) in rw itself

  none : job_at plan.next plan.jobs ≡ None
  none = fresh plan.next plan.jobs h.lawful.below

  found : (id : ℕ) → filter (has_rowid (pos id)) (put_row (next_row (plan.next + 1)) with_job) ≡ row_under turns (scheduled deadline bytes plan) id
  found id = elim (cases_eq (plan.next + 1) id) [
    | inl e ↦
        let itself : eqb id (plan.next + 1) ≡ true = grind (arith, nat_tests) in
        rw itself (subst (λ n. filter (has_rowid (pos n)) (put_row (next_row (plan.next + 1)) with_job) ≡ next_row (plan.next + 1) ∷ []) e
        (put_found (pos (plan.next + 1)) (next_row (plan.next + 1)) with_job refl (IsTable-put_row (job_row now job) rows table)))
    | inr other ↦
        let apart : eqb id (plan.next + 1) ≡ false = grind (arith, nat_tests) in
        put_other (pos id) (next_row (plan.next + 1)) with_job (apart_numbers (plan.next + 1) id other) ∙ rw apart (elim (cases_eq plan.next id) [
          | inl e ↦ subst (λ n. filter (has_rowid (pos n)) with_job ≡ row_of (turns n) (job_at n (put job plan.jobs))) e
              (put_found (pos plan.next) (job_row now job) rows refl table
              ∙ sym (rw (at_put job plan.next plan.jobs none, at_next) (let itself : eqb plan.next plan.next ≡ true = grind (arith, nat_tests) in rw itself)))
          | inr away ↦
              let aside : eqb id plan.next ≡ false = grind (arith, nat_tests) in
              let beside : eqb plan.next id ≡ false = grind (arith, nat_tests) in
              put_other (pos id) (job_row now job) rows (apart_numbers plan.next id away) ∙ h.each id ∙ rw (at_put job id plan.jobs none, aside, beside)
        ])
  ]

  pub stands_scheduled : length bytes ≤ MAX_BYTES → AllByRecursion (λ x. turn x.id < now) plan.jobs
      → StandsBy turns (put_row (next_row (plan.next + 1)) with_job) (scheduled deadline bytes plan)
  stands_scheduled short less = record {
    each = found;
    natural = λ n. put_other (negsuc n) (next_row (plan.next + 1)) with_job (apart_signs (plan.next + 1) n)
        ∙ put_other (negsuc n) (job_row now job) rows (apart_signs plan.next n) ∙ h.natural n;
    lawful = lawful_scheduled deadline bytes plan short h.lawful;
    in_turn = turn_put job turns plan.jobs h.lawful.in_order
        (rw at_next (turns_alike turn turns plan.next now same plan.jobs h.lawful.below less))
        (turn_alike turn turns plan.next same plan.jobs h.lawful.below h.in_turn);
  }

  pub turns_scheduled : AllByRecursion (λ x. turn x.id < now) plan.jobs → AllByRecursion (λ x. turns x.id < now + 1) (put job plan.jobs)
  turns_scheduled less =
      let older = turns_alike turn turns plan.next now same plan.jobs h.lawful.below less in
      all_put job (λ x. turns x.id < now + 1) plan.jobs (rw at_next (omega arith)) (all_weaker (λ x. turns x.id < now) (λ x. turns x.id < now + 1) (λ x h. omega (arith, h)) plan.jobs older)
