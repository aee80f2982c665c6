-- Batches, one after another.
use Rattle.std.proofs.Common.{◌≡◌, ◌<◌, ◌+◌, ℕ, zero, suc, List, [], ◌∷◌, length, take, get_or, Vec, false, Result, Ok, Err, OnOk, sym, ap, ◌∙◌, arith, add-one}
use Rattle.std.specs.Result.{is_err}
use Rattle.std.specs.declared.alloc.Global.{Global}
use Rattle.job_table.specs.Plan.{Plan}
use Rattle.agenda_store.specs.declared.requests.Request.{Request}
use Rattle.agenda_store.specs.Requests.{answered_all, after}

abbrev Batches : Type 0
Batches = List (Vec Request Global)

next : (xs : Batches) (i : ℕ) (x : Vec Request Global) → i < length xs → x ≡ get_or xs i x → (p : Plan) → after (take (suc i) xs) p ≡ answered_all x.items (after (take i xs) p)
next [] i x less is p = absurd (omega arith)
next (y ∷ xs) zero x less is p = ap (λ (v : Vec Request Global). answered_all v.items p) (sym is)
next (y ∷ xs) (suc i) x less is p = next xs i x (omega (arith, less)) is (answered_all y.items p)

pub after_next : (xs : Batches) (i : ℕ) (x : Vec Request Global) → i < length xs → x ≡ get_or xs i x → (p : Plan) → after (take (i + 1) xs) p ≡ answered_all x.items (after (take i xs) p)
after_next xs i x less is p = ap (λ (n : ℕ). after (take n xs) p) (add-one i) ∙ next xs i x less is p

pub ok_of : {T E : Type 0} (r : Result T E) (P : Type 0) → is_err r ≡ false → OnOk r P → P
ok_of (Ok x) P e h = h
ok_of (Err x) P e h = absurd (cc)
