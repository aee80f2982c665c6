-- One more request is answered.
use Rattle.std.proofs.Common.{◌≡◌, ◌<◌, ◌≤◌, ◌+◌, ◌-◌, ℕ, suc, List, [], ◌∷◌, ◌++◌, length, drop, get_or, Result, Ok, Err, IfOk, true, false, if◌then◌else◌, refl, sym, ap, ◌∙◌, subst, arith, add-one, append_assoc, length-drop}
use Rattle.std.proofs.Math.Seq.{drop-cons}
use Rattle.std.specs.Result.{is_ok, is_err}
use Rattle.job_table.specs.Plan.{Plan}
use Rattle.agenda_store.specs.Requests.{answered, IsReply, AllReply}
use Rattle.agenda_store.specs.declared.requests.Request.{Request}
use Rattle.agenda_store.specs.declared.requests.Reply.{Reply}

pub plus_none : {X : Type 0} (xs : List X) → xs ++ [] ≡ xs
plus_none [] = refl
plus_none (x ∷ xs) = ap (λ l. x ∷ l) (plus_none xs)

pub nothing_left : {X : Type 0} (xs : List X) (i : ℕ) → length xs ≤ i → drop i xs ≡ []
nothing_left {X = X} xs i past = go (drop i xs) (length-drop i xs)
  where
    go : (ys : List X) → length ys ≡ length xs - i → ys ≡ []
    go [] none = refl
    go (y ∷ ys) some = absurd (omega (arith, some, past))

pub next_left : (xs : List Request) (i : ℕ) (x : Request) → i < length xs → x ≡ get_or xs i x → drop i xs ≡ x ∷ drop (i + 1) xs
next_left xs i x less is = drop-cons xs i x less ∙ ap (λ (y : Request). y ∷ drop (suc i) xs) (sym is) ∙ ap (λ (n : ℕ). x ∷ drop n xs) (sym (add-one i))

-- Replies that go on from here go on by one more.
pub reply_more : (xs : List Request) (i : ℕ) (x : Request) (first mid new : Plan) (told : List Reply) (reply : Reply) → i < length xs → x ≡ get_or xs i x
    → ((more : List Reply) → AllReply (drop i xs) mid more → AllReply xs first (told ++ more)) → IsReply x mid reply → new ≡ answered x mid
    → (more : List Reply) → AllReply (drop (i + 1) xs) new more → AllReply xs first ((told ++ reply ∷ []) ++ more)
reply_more xs i x first mid new told reply less is before one plan more rest =
    subst (AllReply xs first) (sym (append_assoc told (reply ∷ []) more))
    (before (reply ∷ more) (subst (λ (l : List Request). AllReply l mid (reply ∷ more)) (sym (next_left xs i x less is))
    (one, subst (λ (q : Plan). AllReply (drop (i + 1) xs) q more) plan rest)))

pub kept_on_err : {X T E : Type 0} (r : Result T E) (a b : X) → is_err r ≡ true → (if is_ok r then a else b) ≡ b
kept_on_err (Ok x) a b e = absurd (cc)
kept_on_err (Err x) a b e = refl

pub grown_on_ok : {X T E : Type 0} (r : Result T E) (a b : X) → is_err r ≡ false → (if is_ok r then a else b) ≡ a
grown_on_ok (Ok x) a b e = refl
grown_on_ok (Err x) a b e = absurd (cc)

-- what follows from two facts of a value
pub both_ok : {T E : Type 0} (r : Result T E) (P Q R : T → Type 0) → ((x : T) → P x → Q x → R x) → IfOk r P → IfOk r Q → IfOk r R
both_ok (Ok x) P Q R f p q = f x p q
both_ok (Err e) P Q R f p q = tt
