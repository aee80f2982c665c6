-- Jobs as they are read from a table.
use Rattle.std.specs.Prelude.{◌≡◌, ◌<◌, ◌≤◌, ◌==◌, ℕ, false, if◌then◌else◌, List, [], ◌∷◌, ◌++◌, length, map}
use Rattle.std.specs.List.{AllByRecursion}
use Rattle.sqlite_value.specs.Order.{Row}
use Rattle.sqlite_trees.specs.View.{View}
use Rattle.sqlite_trees.specs.declared.store.Shape.TheVariants as shapes
use Rattle.job_table.specs.Plan.{Job, Plan}
use Rattle.job_table.specs.Table.{job_row, next_row, StandsBy}
use Rattle.job_table.specs.declared.rows.Entry.{Entry}
use Rattle.job_table.specs.declared.rows.TheConstants.{MAX_BYTES}

abbrev pub job_of : Entry → Job
job_of e = record { id = e.id; deadline = e.deadline; attempts = e.attempts; bytes = e.bytes.items }

abbrev pub entry_row : Entry → Row
entry_row e = job_row e.turn (job_of e)

-- the plan of these jobs
abbrev pub plan_of : List Entry → ℕ → Plan
plan_of entries next = record { jobs = map job_of entries; next = next }

-- the turn of a number among these jobs
abbrev pub turn_at : List Entry → ℕ → ℕ
turn_at [] id = 0
turn_at (e ∷ es) id = if e.id == id then e.turn else turn_at es id

-- The table has the rows of these jobs and of the next number, and only cursors have moved.
pub record IsRead (old new : View) (entries : List Entry) (next : ℕ) : Type 0 where
  pub sound : old.is_broken ≡ false
  pub shape : old.shape 0 ≡ shapes.Table
  pub rows : old.trees 0 ≡ map entry_row entries ++ next_row next ∷ []
  pub same : new ≡ record old { cursors = new.cursors }

-- One job leaves before another.
pub record IsBefore (one other : Entry) : Type 0 where
  pub deadline : one.deadline ≤ other.deadline
  pub turn : one.deadline ≡ other.deadline → one.turn < other.turn

pub record IsFit (next turn : ℕ) (e : Entry) : Type 0 where
  pub id : e.id < next
  pub short : length e.bytes.items ≤ MAX_BYTES
  pub turn_below : e.turn < turn

-- Each job is fit, and leaves before the later ones.
abbrev pub IsChecked : ℕ → ℕ → List Entry → Type 0
IsChecked next turn [] = Unit {0}
IsChecked next turn (e ∷ es) = IsFit next turn e × AllByRecursion (IsBefore e) es × IsChecked next turn es

-- The rows stand for the plan of these jobs, and only cursors have moved.
pub record Loads (old new : View) (entries : List Entry) (next turn : ℕ) : Type 0 where
  pub sound : old.is_broken ≡ false
  pub shape : old.shape 0 ≡ shapes.Table
  pub stands : StandsBy (turn_at entries) (old.trees 0) (plan_of entries next)
  pub turns : AllByRecursion (λ job. turn_at entries job.id < turn) (map job_of entries)
  pub same : new ≡ record old { cursors = new.cursors }
