use Rattle.std.proofs.Common.{◌≡◌, Bool, false, true, ◌||◌, [], ◌∷◌, ◌++◌, Option, codes, string_bytes, rules, sym, ap, ◌∙◌, subst}
use Rattle.std.specs.Option.{option_map}
use Rattle.serde_json.specs.Data.{Data}
use Rattle.serde_json.specs.View.{view}
use Rattle.serde_json.specs.Written.{compact_text, has_float}
use Rattle.serde_json.specs.declared.value.Value.{the_lemmas}
use Rattle.agenda_store.specs.Store.{lent}
use Rattle.agenda_store.specs.declared.job.JobRef.{JobRef}
use Rattle.jobs.specs.Answer.{IsJobData, Shows, only}
use Rattle.jobs.proofs.Showing.{job_no_float, ok_by}
use Rattle.jobs.proofs.shown.job_text.Goals as goal

pub returns-then-style : goal.returns-then-style
returns-then-style c =
    let dates = c.args.style.has_dates in
    let job = lent c.in-Some.job in
    let told = view c.in_ok-job.job in
    let value = c.in_ok-json.field-0 in
    let is_told : IsJobData dates job told = c.in_ok-job.ensures in
    let built : view value ≡ only (codes "job") told = search (rules, the_lemmas) in
    let no_float : has_float (view value) ≡ false = ap has_float built ∙ ap (λ (b : Bool). b || false) (job_no_float dates job told is_told) in
    ok_by (λ text. string_bytes text ≡ compact_text (view value) ++ 10 ∷ [])
    (λ text. Shows c.args.style.is_json dates (option_map lent c.args.job) (string_bytes text)) c.json_line.result (c.json_line.ensures no_float)
    (λ text is. subst (λ (b : Bool). Shows b dates (option_map lent c.args.job) (string_bytes text)) (sym c.if-style.true)
    (subst (λ (o : Option JobRef). Shows true dates (option_map lent o) (string_bytes text)) (sym c.in-Some.is)
    (told, (is_told, is ∙ ap (λ (d : Data). compact_text d ++ 10 ∷ []) built))))
