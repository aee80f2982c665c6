-- The entries of an agenda as jobs.
use Rattle.std.proofs.Common.{◌≡◌, inl, inr, ℕ, ◌<◌, true, false, List, [], ◌∷◌, ◌++◌, map, Some, None, refl, ap, arith}
use Rattle.std.specs.List.{AllByRecursion}
use Rattle.std.proofs.lemmas.Bool.{cases_eq}
use Rattle.std.proofs.lemmas.Bool.Decides.{nat_tests, leb_tells}
use Rattle.std.specs.Ordering.{is_lt, nat_cmp}
use Rattle.agenda.specs.Agenda.{Entry as Listed, put_behind}
use Rattle.job_table.specs.Plan.{Job, Plan, put, job_at, without, HasDistinctNumbers}
use Rattle.agenda_store.specs.Planner.{Entry, Each, ticket_of, job_in, IsApart}
use Rattle.agenda_store.proofs.Entries.{Entries, none_cons}

-- a plan with these jobs
abbrev pub with_jobs : ℕ → List Job → Plan
with_jobs next jobs = record { jobs = jobs; next = next }

-- A job goes behind those that aren't due later.
pub put_is : (x : Listed (ℕ × Entry)) (xs : Entries) → map job_in (put_behind nat_cmp x xs) ≡ put (job_in x) (map job_in xs)
put_is x [] = refl
put_is x (y ∷ xs) = elim (leb_tells y.item.0 x.item.0) [
  | inl h ↦ let later : is_lt (nat_cmp x.item.0 y.item.0) ≡ false = grind (arith, nat_tests, h.1) in rw (h.0, later) (ap (λ (l : List Job). job_in y ∷ l) (put_is x xs))
  | inr h ↦ let later : is_lt (nat_cmp x.item.0 y.item.0) ≡ true = grind (arith, nat_tests, h.1) in rw (h.0, later) refl
]

pub without_entry : (id : ℕ) (a b : Entries) (x : Listed (ℕ × Entry)) → ticket_of id a ≡ None → x.item.1.id ≡ id → without id (map job_in (a ++ x ∷ b)) ≡ map job_in (a ++ b)
without_entry id [] b x none same = grind (arith, nat_tests)
without_entry id (y ∷ a) b x none same =
    let parts = none_cons id y a none in
    let rest = without_entry id a b x parts.1 same in
    grind (arith, nat_tests, parts.0, rest)

pub job_at_entry : (id : ℕ) (a b : Entries) (x : Listed (ℕ × Entry)) → ticket_of id a ≡ None → x.item.1.id ≡ id → job_at id (map job_in (a ++ x ∷ b)) ≡ Some (job_in x)
job_at_entry id [] b x none same = grind (arith, nat_tests)
job_at_entry id (y ∷ a) b x none same =
    let parts = none_cons id y a none in
    let rest = job_at_entry id a b x parts.1 same in
    grind (arith, nat_tests, parts.0, rest)

pub no_job : (id : ℕ) (xs : Entries) → ticket_of id xs ≡ None → (job_at id (map job_in xs) ≡ None) × (without id (map job_in xs) ≡ map job_in xs)
no_job id [] none = (refl, refl)
no_job id (y ∷ xs) none =
    let parts = none_cons id y xs none in
    let rest = no_job id xs parts.1 in
    (grind (arith, nat_tests, parts.0, rest.0), grind (arith, nat_tests, parts.0, rest.1))

-- A number that names no job has no ticket.
pub no_ticket : (id : ℕ) (xs : Entries) → job_at id (map job_in xs) ≡ None → ticket_of id xs ≡ None
no_ticket id [] none = refl
no_ticket id (y ∷ xs) none = elim (cases_eq y.item.1.id id) [
  | inl same ↦ absurd (grind (arith, nat_tests, none))
  | inr other ↦ let rest = no_ticket id xs (grind (arith, nat_tests, none)) in grind (arith, nat_tests, rest)
]

pub distinct : (xs : Entries) → IsApart xs → HasDistinctNumbers (map job_in xs)
distinct [] apart = tt
distinct (x ∷ xs) apart = ((no_job x.item.1.id xs apart.0).0, distinct xs apart.1)

-- What the entries have, the jobs have.
pub each_job : (P : Job → Type 0) (Q : Entry → Type 0) → ((x : Listed (ℕ × Entry)) → Q x.item.1 → P (job_in x)) → (xs : Entries) → Each Q xs
    → AllByRecursion P (map job_in xs)
each_job P Q implies [] all = tt
each_job P Q implies (x ∷ xs) all = (implies x all.0, each_job P Q implies xs all.1)

-- The next number names no job.
pub fresh : (n : ℕ) (xs : Entries) → Each (λ job. job.id < n) xs → job_at n (map job_in xs) ≡ None
fresh n [] below = refl
fresh n (x ∷ xs) below =
    let first = below.0 in
    let rest = fresh n xs below.1 in
    grind (arith, nat_tests, first, rest)
