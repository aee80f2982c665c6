use Rattle.std.proofs.Common.{◌≡◌, ℕ, Bool, false, true, ◌||◌, [], ◌∷◌, ◌++◌, Option, codes, string_bytes, rules, sym, ap, ◌∙◌, subst}
use Rattle.serde_json.specs.Data.{Data}
use Rattle.serde_json.specs.View.{view}
use Rattle.serde_json.specs.Written.{compact_text, has_float}
use Rattle.serde_json.specs.declared.value.Value.{the_lemmas}
use Rattle.line_service.specs.Times.{IsTimeData}
use Rattle.jobs.specs.Answer.{TellsDeadline, only}
use Rattle.jobs.proofs.Showing.{time_no_float, ok_by}
use Rattle.jobs.proofs.shown.deadline_text.Goals as goal

pub returns-then-style : goal.returns-then-style
returns-then-style c =
    let dates = c.args.style.has_dates in
    let seconds = c.in-Some.deadline in
    let told = view c.in_ok-deadline.deadline in
    let value = c.in_ok-json.field-0 in
    let is_told : IsTimeData dates seconds told = c.in_ok-deadline.ensures in
    let built : view value ≡ only (codes "deadline") told = search (rules, the_lemmas) in
    let no_float : has_float (view value) ≡ false = ap has_float built ∙ ap (λ (b : Bool). b || false) (time_no_float dates seconds told is_told) in
    ok_by (λ text. string_bytes text ≡ compact_text (view value) ++ 10 ∷ [])
    (λ text. TellsDeadline c.args.style.is_json dates c.args.deadline (string_bytes text)) c.json_line.result (c.json_line.ensures no_float)
    (λ text is. subst (λ (b : Bool). TellsDeadline b dates c.args.deadline (string_bytes text)) (sym c.if-style.true)
    (subst (λ (o : Option ℕ). TellsDeadline true dates o (string_bytes text)) (sym c.in-Some.is)
    (told, (is_told, is ∙ ap (λ (d : Data). compact_text d ++ 10 ∷ []) built))))
