-- Lines that were answered, one after the other; and known bytes that grow.
use Rattle.std.proofs.Common.{◌≡◌, ℕ, List, [], ◌∷◌, ◌++◌, Option, Some, None, refl, sym, ap, ◌∙◌, append_assoc, length, length-append, take}
use Rattle.std.proofs.lemmas.List.{append-nil}
use Rattle.std.proofs.Math.Seq.{take-append-add, take-append_seam}
use Rattle.std.specs.Io.{StartsWith}
use Rattle.std.specs.Io.KnownBytes.{Appends}
use Rattle.line_service.specs.declared.style.Style.{Style}
use Rattle.agenda_store.specs.Plan.{Plan}
use Rattle.jobs.specs.Serving.{Step, AnswersLine, AreAnswered, texts_of, plan_after}

pub plan_after_more : (plan : Plan) (xs : List Step) (step : Step) → plan_after plan (xs ++ step ∷ []) ≡ step.plan
plan_after_more plan [] step = refl
plan_after_more plan (x ∷ xs) step = plan_after_more x.plan xs step

pub answered_more : (style : Style) (plan : Plan) (xs : List Step) (step : Step) → AreAnswered style plan xs
    → AnswersLine style step.command (plan_after plan xs) step.plan step.text → AreAnswered style plan (xs ++ step ∷ [])
answered_more style plan [] step answered one = (one, tt)
answered_more style plan (x ∷ xs) step answered one = (answered.0, answered_more style x.plan xs step answered.1 one)

pub texts_more : (xs ys : List Step) → texts_of (xs ++ ys) ≡ texts_of xs ++ texts_of ys
texts_more [] ys = refl
texts_more (x ∷ xs) ys = ap (λ (l : List ℕ). x.text ++ l) (texts_more xs ys) ∙ sym (append_assoc x.text (texts_of xs) (texts_of ys))

pub appends_none : (known : Option (List ℕ)) → Appends known known []
appends_none None = tt
appends_none (Some xs) = sym (append-nil xs)

pub appends_more : (old mid new : Option (List ℕ)) (xs ys : List ℕ) → Appends old mid xs → Appends mid new ys → Appends old new (xs ++ ys)
appends_more None mid new xs ys h k = tt
appends_more (Some a) None new xs ys h k = absurd h
appends_more (Some a) (Some b) None xs ys h k = absurd k
appends_more (Some a) (Some b) (Some c) xs ys h k = k ∙ ap (λ (t : List ℕ). t ++ ys) h ∙ append_assoc a xs ys

pub starts_self : (xs : List ℕ) → StartsWith xs xs
starts_self xs = ap (λ (l : List ℕ). take (length xs) l) (sym (append-nil xs)) ∙ take-append_seam xs []

pub starts_more : (xs ys text : List ℕ) → StartsWith ys text → StartsWith (xs ++ ys) (xs ++ text)
starts_more xs ys text front =
    ap (λ (n : ℕ). take n (xs ++ ys)) (length-append xs text) ∙ take-append-add xs ys (length text) ∙ ap (λ (l : List ℕ). xs ++ l) front
