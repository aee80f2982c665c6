-- Jobs that are being shown.
use Rattle.std.specs.Prelude.{List, Bool, true, false, map, string_bytes}
use Rattle.serde_json.specs.View.{view}
use Rattle.line_service.specs.declared.style.Style.{Style}
use Rattle.agenda_store.specs.Plan.{Job}
use Rattle.jobs.specs.Answer.{AreData, IsLines}
use Rattle.jobs.specs.declared.shown.Shown.{Shown}

-- The part of an answer in this form shows jobs.
abbrev pub HasShownIn : Bool → Bool → Shown → List Job → Type 0
HasShownIn false has_dates shown jobs = IsLines has_dates jobs (string_bytes shown.lines)
HasShownIn true has_dates shown jobs = AreData has_dates jobs (map view shown.values.items)

-- What is shown so far are these jobs.
abbrev pub HasShown : Style → Shown → List Job → Type 0
HasShown style shown jobs = HasShownIn style.is_json style.has_dates shown jobs
