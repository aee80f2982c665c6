use Rattle.std.proofs.Common.{◌≡◌, ◌++◌, [], ◌∷◌, Bool, ℕ, Option, if◌then◌else◌, ap, ◌∙◌}
use Rattle.jiff.specs.Words.{datetime_text}
use Rattle.line_service.proofs.times.date_text.Goals as goal

pub returns-clause-value : goal.returns-clause-value
returns-clause-value c =
    let shown = c.timestamp_text-text.ensures in
    let same = ap (λ (o : Bool × ℕ × Option ℕ). datetime_text o.0 o.1 o.2 shown.0 ++ (if o.0 then 122 else 90) ∷ []) c.new.ensures in
    record {
      clock = shown.0;
      shows = shown.1 ∙ ap (λ t. t.nanosecond) c.to_plain.ensures ∙ c.in-Some.ensures.value;
      is = c.in_ok-from_str.ensures.ok ∙ c.as_str.ensures.value ∙ shown.2 ∙ same;
    }
