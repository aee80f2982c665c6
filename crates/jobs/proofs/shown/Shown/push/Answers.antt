use Rattle.std.proofs.Common.{◌≡◌, ℕ, Bool, List, [], ◌∷◌, ◌++◌, map, string_bytes, rules, refl, sym, ap, ◌∙◌, subst}
use Rattle.serde_json.specs.Data.{Data}
use Rattle.serde_json.specs.View.{view}
use Rattle.agenda_store.specs.Store.{lent}
use Rattle.jobs.specs.Answer.{AreData}
use Rattle.jobs.specs.Showing.{HasShownIn}
use Rattle.jobs.proofs.Showing.{lines_more, data_more, joined_more}
use Rattle.jobs.proofs.shown.Shown.push.Goals as goal

map_more : {A B : Type 0} (f : A → B) (xs : List A) (x : A) → map f (xs ++ x ∷ []) ≡ map f xs ++ f x ∷ []
map_more f [] x = refl
map_more f (y ∷ xs) x = ap (λ l. f y ∷ l) (map_more f xs x)

pub returns-in_ok-push : goal.returns-in_ok-push
returns-in_ok-push c = λ jobs was.
    let old = c.args.self.now in
    let dates = c.args.style.has_dates in
    let job = lent c.args.job in
    let value = c.in_ok-job_value.field-0 in
    let before = subst (λ (b : Bool). HasShownIn b dates old jobs) c.if-style.true was in
    let grown = ap (map view) c.in_ok-push.ensures.items ∙ map_more view old.values.items value in
    let after = subst (λ (l : List Data). AreData dates (jobs ++ job ∷ []) l) (sym grown)
    (data_more dates jobs (map view old.values.items) job (view value) before c.in_ok-job_value.ensures) in
    subst (λ (b : Bool). HasShownIn b dates (record { lines = old.lines; values = c.push.new.self }) (jobs ++ job ∷ [])) (sym c.if-style.true) after

pub returns-in_ok-push_str : goal.returns-in_ok-push_str
returns-in_ok-push_str c = λ jobs was.
    let old = c.args.self.now in
    let dates = c.args.style.has_dates in
    let job = lent c.args.job in
    let text = string_bytes c.in_ok-job_line.field-0 in
    let before = subst (λ (b : Bool). HasShownIn b dates old jobs) c.if-style.false was in
    let grown : string_bytes c.push_str.new.self ≡ string_bytes old.lines ++ text = search rules in
    subst (λ (b : Bool). HasShownIn b dates (record { lines = c.push_str.new.self; values = old.values }) (jobs ++ job ∷ [])) (sym c.if-style.false) (
      before.0 ++ text ∷ [],
      (
        lines_more dates jobs before.0 job text before.1.0 c.in_ok-job_line.ensures,
        grown ∙ ap (λ (l : List ℕ). l ++ text) before.1.1 ∙ sym (joined_more before.0 text),
      ),
    )
