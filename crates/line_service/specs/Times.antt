-- Times: seconds since 1970-01-01T00:00:00Z, in digits or as a date with a zone.
use Rattle.std.specs.Prelude.{◌≡◌, ◌⊎◌, ◌≤◌, ◌<◌, ◌*◌, ◌++◌, ℕ, List, Bool, true, false, pos, Ok, codes, decimal}
use Rattle.std.specs.Str.Parse.{IsNumeral, digits_value}
use Rattle.jiff.specs.Types.{DateTime}
use Rattle.jiff.specs.Words.{civil_nanos, iso_datetime_text, parse_timestamp}
use Rattle.serde_json.specs.Data.{Data, number, unsigned, string}

-- The text is a date with a zone, as jiff reads it, that comes so many whole seconds after 1970-01-01T00:00:00Z.
abbrev pub ReadsAsDate : List ℕ → ℕ → Type 0
ReadsAsDate text seconds = parse_timestamp text ≡ Ok (pos (seconds * 1_000_000_000))

-- The text says a time: in decimal digits alone, or as a date.
abbrev pub IsTime : List ℕ → ℕ → Type 0
IsTime text seconds = (IsNumeral 10 text × (seconds ≡ digits_value 10 text)) ⊎ ReadsAsDate text seconds

-- the last time that is written as a date: 9999-12-30T22:00:00Z
abbrev pub last_date : ℕ
last_date = 253_402_207_200

-- The text is what a clock in UTC shows so many seconds after 1970-01-01T00:00:00Z, as `2026-12-01T08:00:00Z`.
pub record IsDate (seconds : ℕ) (text : List ℕ) : Type 0 where
  pub clock : DateTime
  pub shows : civil_nanos clock ≡ pos (seconds * 1_000_000_000)
  pub is : text ≡ iso_datetime_text clock ++ codes "Z"

-- How a time is written: in digits; where dates are asked for, as a date, if it has one.
abbrev pub IsTimeText : Bool → ℕ → List ℕ → Type 0
IsTimeText false seconds text = text ≡ decimal seconds
IsTimeText true seconds text = ((seconds ≤ last_date) × IsDate seconds text) ⊎ ((last_date < seconds) × (text ≡ decimal seconds))

-- A time in JSON: a number; where dates are asked for, the text of its date, if it has one.
abbrev pub IsTimeData : Bool → ℕ → Data → Type 0
IsTimeData false seconds value = value ≡ number (unsigned seconds)
IsTimeData true seconds value =
    ((seconds ≤ last_date) × ((text : List ℕ) × (IsDate seconds text × (value ≡ string text))))
    ⊎ ((last_date < seconds) × (value ≡ number (unsigned seconds)))
