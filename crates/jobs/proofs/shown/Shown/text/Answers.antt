use Rattle.std.proofs.Common.{◌≡◌, Bool, true, false, ◌||◌, List, [], ◌∷◌, ◌++◌, ◌==◌, length, Result, Ok, Err, IfOk, map, codes, string_bytes, rules, sym, ap, ◌∙◌, subst}
use Rattle.serde_json.specs.Data.{Data, array}
use Rattle.serde_json.specs.View.{view, items_of}
use Rattle.serde_json.specs.Written.{compact_text, has_float}
use Rattle.serde_json.specs.declared.value.Value.{the_lemmas}
use Rattle.agenda_store.specs.Plan.{Job}
use Rattle.jobs.specs.Answer.{AreData, ShowsAll, line, only}
use Rattle.jobs.specs.Showing.{HasShown, HasShownIn}
use Rattle.jobs.proofs.Showing.{jobs_no_float, ok_by, shows_none, shows_some}
use Rattle.jobs.proofs.shown.Shown.text.Goals as goal

shows_by : {A E : Type 0} (Has : List Job → Type 0) (P : A → Type 0) (Q : A → List Job → Type 0) (r : Result A E) → ((jobs : List Job) → Has jobs → IfOk r P)
    → ((x : A) (jobs : List Job) → Has jobs → P x → Q x jobs) → IfOk r (λ x. (jobs : List Job) → Has jobs → Q x jobs)
shows_by Has P Q (Ok x) ok more = λ jobs h. more x jobs h (ok jobs h)
shows_by Has P Q (Err e) ok more = tt

pub returns-then-style : goal.returns-then-style
returns-then-style c =
    let shown = c.args.self in
    let style = c.args.style in
    let dates = style.has_dates in
    let values = map view shown.values.items in
    let value = c.in_ok-json.field-0 in
    let built : view value ≡ only (codes "jobs") (array (items_of values)) = search (rules, the_lemmas) in
    let are : (jobs : List Job) → HasShown style shown jobs → AreData dates jobs values = λ jobs h. subst (λ (b : Bool). HasShownIn b dates shown jobs) c.if-style.true h in
    let no_float : (jobs : List Job) → HasShown style shown jobs → has_float (view value) ≡ false =
    λ jobs h. ap has_float built ∙ ap (λ (b : Bool). b || false) (jobs_no_float dates jobs values (are jobs h)) in
    shows_by (HasShown style shown) (λ text. string_bytes text ≡ compact_text (view value) ++ 10 ∷ [])
    (λ text jobs. ShowsAll style.is_json dates jobs (string_bytes text)) c.json_line.result (λ jobs h. c.json_line.ensures (no_float jobs h))
    (λ text jobs h is. subst (λ (b : Bool). ShowsAll b dates jobs (string_bytes text)) (sym c.if-style.true)
    (values, (are jobs h, is ∙ ap (λ (d : Data). compact_text d ++ 10 ∷ []) built)))

pub returns-then-is_empty : goal.returns-then-is_empty
returns-then-is_empty c =
    let shown = c.args.self in
    let dates = c.args.style.has_dates in
    let none : (length (string_bytes shown.lines) == 0) ≡ true = cc in
    ok_by (λ text. string_bytes text ≡ line (codes "no job"))
    (λ text. (jobs : List Job) → HasShown c.args.style shown jobs → ShowsAll c.args.style.is_json dates jobs (string_bytes text)) c.from_str.result (search rules)
    (λ text is jobs h. subst (λ (b : Bool). ShowsAll b dates jobs (string_bytes text)) (sym c.if-style.false)
    (shows_none dates jobs (string_bytes shown.lines) (string_bytes text) (subst (λ (b : Bool). HasShownIn b dates shown jobs) c.if-style.false h) none is))

pub returns : goal.returns
returns c = λ jobs h.
    let shown = c.args.self in
    let dates = c.args.style.has_dates in
    let some : (length (string_bytes shown.lines) == 0) ≡ false = cc in
    subst (λ (b : Bool). ShowsAll b dates jobs (string_bytes shown.lines)) (sym c.if-style.false)
    (shows_some dates jobs (string_bytes shown.lines) (subst (λ (b : Bool). HasShownIn b dates shown jobs) c.if-style.false h) some)
