-- How a plan lies in a table of a database.
use Rattle.std.specs.Prelude.{◌≡◌, ◌<◌, ◌==◌, ◌⊎◌, ℕ, pos, negsuc, false, IsTrue, if◌then◌else◌, List, [], ◌∷◌, filter, Option, Some, None}
use Rattle.std.specs.List.{AllByRecursion}
use Rattle.sqlite_value.specs.declared.value.Value.TheVariants.{Null, Int, Blob}
use Rattle.sqlite_value.specs.Order.{Row}
use Rattle.sqlite_trees.specs.Tree.{Trees, has_rowid, put_row, without_rowid, with_tree}
use Rattle.sqlite_trees.specs.View.{View}
use Rattle.sqlite_trees.specs.declared.store.Shape.TheVariants as shapes
use Rattle.sqlite_trees.specs.declared.store.Store.{Ghosts}
use Rattle.job_table.specs.Plan.{Job, Plan, empty, job_at, IsLawful}
use Rattle.job_table.specs.declared.table.Table.{Table}

-- The row of a job: its number as the rowid, its deadline, its turn among jobs with equal deadlines, its attempts, and its bytes.
abbrev pub job_row : ℕ → Job → Row
job_row turn job = Int (pos job.id) ∷ Null ∷ Int (pos job.deadline) ∷ Int (pos turn) ∷ Int (pos job.attempts) ∷ Blob job.bytes ∷ []

-- the row of the number that comes next
abbrev pub next_row : ℕ → Row
next_row next = Int (pos next) ∷ Null ∷ Null ∷ Null ∷ Null ∷ Null ∷ []

-- the row of a job, if there is one
abbrev pub row_of : ℕ → Option Job → List Row
row_of turn None = []
row_of turn (Some job) = job_row turn job ∷ []

-- the rows under a number
abbrev pub row_under : (ℕ → ℕ) → Plan → ℕ → List Row
row_under turn plan id = if id == plan.next then next_row plan.next ∷ [] else row_of (turn id) (job_at id plan.jobs)

-- Jobs with equal deadlines stand in the order of their turns.
abbrev pub IsInTurn : (ℕ → ℕ) → List Job → Type 0
IsInTurn turn [] = Unit {0}
IsInTurn turn (first ∷ jobs) = AllByRecursion (λ job. first.deadline ≡ job.deadline → turn first.id < turn job.id) jobs × IsInTurn turn jobs

-- The rows are those of the jobs of a plan, whose turns are these, and the row of the next number. No other row is there.
pub record StandsBy (turn : ℕ → ℕ) (rows : List Row) (plan : Plan) : Type 0 where
  pub each : (id : ℕ) → filter (has_rowid (pos id)) rows ≡ row_under turn plan id
  pub natural : (n : ℕ) → filter (has_rowid (negsuc n)) rows ≡ []
  pub lawful : IsLawful plan
  pub in_turn : IsInTurn turn plan.jobs

-- There is no row yet, and no job was ever scheduled.
pub record IsUnused (rows : List Row) (plan : Plan) : Type 0 where
  pub no_rows : rows ≡ []
  pub no_jobs : plan ≡ empty

-- The rows stand for a plan: by the turns of its jobs, or since there is none of either.
abbrev pub StandsFor : List Row → Plan → Type 0
StandsFor rows plan = ((turn : ℕ → ℕ) × StandsBy turn rows plan) ⊎ IsUnused rows plan

-- The trees of a database stand for a plan.
abbrev pub TreesStandFor : Trees → Plan → Type 0
TreesStandFor trees plan = StandsFor (trees 0) plan

-- One row is put into the table.
pub record IsPut (old new : View) (row : Row) : Type 0 where
  pub sound : old.is_broken ≡ false
  pub shape : old.shape 0 ≡ shapes.Table
  pub is : new ≡ record old { trees = with_tree old.trees 0 (put_row row (old.trees 0)); cursors = new.cursors }

-- The row of a number is deleted from the table.
pub record IsDeleted (old new : View) (id : ℕ) : Type 0 where
  pub sound : old.is_broken ≡ false
  pub shape : old.shape 0 ≡ shapes.Table
  pub is : new ≡ record old { trees = with_tree old.trees 0 (without_rowid (pos id) (old.trees 0)); cursors = new.cursors }

-- The table had no row, and has that of the first number.
pub record IsBegun (old new : View) : Type 0 where
  pub shape : old.shape 0 ≡ shapes.Table
  pub was : old.trees 0 ≡ []
  pub rows : new.trees 0 ≡ next_row 1 ∷ []
  pub sound : new.is_broken ≡ false
  pub same : new.shape ≡ old.shape

-- only cursors have moved
abbrev pub HasSameTrees : View → View → Type 0
HasSameTrees old new = new ≡ record old { cursors = new.cursors }

module _ {S : Type 0} (g : Ghosts S) where
  -- The table is open, and the transaction sees the rows of the plan.
  pub record Holds (table : Table S) (plan : Plan) : Type 0 where
    pub turn : ℕ → ℕ
    pub is_open : IsTrue table.is_open
    pub sound : (g.view table.rows).is_broken ≡ false
    pub shape : (g.view table.rows).shape 0 ≡ shapes.Table
    pub stands : StandsBy turn ((g.view table.rows).trees 0) plan
    pub next : table.next ≡ plan.next
    pub turns : AllByRecursion (λ job. turn job.id < table.next_turn) plan.jobs

-- A crash may leave trees that stand for the plan.
pub record IsLeft {S : Type 0} (g : Ghosts S) (rows : S) (plan : Plan) : Type 0 where
  pub trees : Trees
  pub left : g.recovers rows trees
  pub stands : TreesStandFor trees plan

-- the rows of a table
abbrev pub rows_of : {S : Type 0} → Table S → S
rows_of table = table.rows
