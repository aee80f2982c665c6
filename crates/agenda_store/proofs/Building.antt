-- A job that is due last is put last.
use Rattle.std.proofs.Common.{◌≡◌, ◌<◌, ◌≤◌, ◌+◌, ℕ, zero, suc, List, [], ◌∷◌, ◌++◌, length, take, get_or, map, refl, sym, ap, ◌∙◌, subst, arith, add-one}
use Rattle.std.specs.List.{AllByRecursion}
use Rattle.std.proofs.lemmas.Bool.Decides.{nat_tests}
use Rattle.job_table.specs.Plan.{Job, put, IsInOrder}
use Rattle.job_table.specs.Entries.{job_of}
use Rattle.job_table.specs.declared.rows.Entry.{Entry}

put_last : (job : Job) (jobs : List Job) → AllByRecursion (λ x. x.deadline ≤ job.deadline) jobs → put job jobs ≡ jobs ++ job ∷ []
put_last job [] all = refl
put_last job (x ∷ jobs) all = let first = all.0 in let rest = put_last job jobs all.1 in grind (arith, nat_tests, first, rest)

later_at : (n : ℕ) (xs : List Entry) (i : ℕ) (e : Entry) → i < length xs → e ≡ get_or xs i e → AllByRecursion (λ job. n ≤ job.deadline) (map job_of xs) → n ≤ e.deadline
later_at n [] i e less is all = absurd (omega arith)
later_at n (x ∷ xs) zero e less is all = subst (λ (y : Entry). n ≤ y.deadline) (sym is) all.0
later_at n (x ∷ xs) (suc i) e less is all = later_at n xs i e (omega (arith, less)) is all.1

earlier : (xs : List Entry) (i : ℕ) (e : Entry) → i < length xs → e ≡ get_or xs i e → IsInOrder (map job_of xs) → AllByRecursion (λ job. job.deadline ≤ e.deadline) (map job_of (take i xs))
earlier [] i e less is order = absurd (omega arith)
earlier (x ∷ xs) zero e less is order = tt
earlier (x ∷ xs) (suc i) e less is order = (later_at x.deadline xs i e (omega (arith, less)) is order.0, earlier xs i e (omega (arith, less)) is order.1)

one_more : (xs : List Entry) (i : ℕ) (e : Entry) → i < length xs → e ≡ get_or xs i e → map job_of (take (suc i) xs) ≡ map job_of (take i xs) ++ job_of e ∷ []
one_more [] i e less is = absurd (omega arith)
one_more (x ∷ xs) zero e less is = ap (λ (y : Entry). job_of y ∷ []) (sym is)
one_more (x ∷ xs) (suc i) e less is = ap (λ (l : List Job). job_of x ∷ l) (one_more xs i e (omega (arith, less)) is)

pub put_next : (xs : List Entry) (i : ℕ) (e : Entry) → i < length xs → e ≡ get_or xs i e → IsInOrder (map job_of xs)
    → put (job_of e) (map job_of (take i xs)) ≡ map job_of (take (i + 1) xs)
put_next xs i e less is order =
    put_last (job_of e) (map job_of (take i xs)) (earlier xs i e less is order) ∙ sym (one_more xs i e less is) ∙ ap (λ (n : ℕ). map job_of (take n xs)) (sym (add-one i))
