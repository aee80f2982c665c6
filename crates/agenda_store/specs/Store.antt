-- What a store is.
use Rattle.std.specs.Prelude.{◌≡◌, Bool, false, IsTrue}
use Rattle.sqlite_trees.specs.View.{IsClean}
use Rattle.sqlite_trees.specs.declared.store.Store as trees
use Rattle.job_table.specs.Plan.{Plan, Job}
use Rattle.job_table.specs.Table.{Holds, rows_of}
use Rattle.job_table.specs.declared.table.Table.{Table}
use Rattle.agenda_store.specs.declared.job.Job.{Job as Owned}
use Rattle.agenda_store.specs.declared.job.JobRef.{JobRef}

-- the job of the plan that is handed out
abbrev pub owned : Owned → Job
owned x = record { id = x.id.0; deadline = x.deadline; attempts = x.attempts; bytes = x.bytes.items }

-- the job of the plan that is lent
abbrev pub lent : JobRef → Job
lent x = record { id = x.id.0; deadline = x.deadline; attempts = x.attempts; bytes = x.bytes.now }

-- A store: its plan, its table, and whether it is open, which it is until a call fails.
pub record Store (S : Type 0) : Type 0 where
  pub plan : Plan
  pub table : Table S
  pub is_open : Bool

-- While the store is open and the disk clean, the table holds the plan.
abbrev pub IsKept : {S : Type 0} → trees.Ghosts S → Store S → Type 0
IsKept g store = IsTrue store.is_open → IsClean (g.view (rows_of store.table)) → Holds g store.table store.plan

-- A call has failed, and the store answers no more until it is rolled back.
abbrev pub IsClosed : {S : Type 0} → Store S → Type 0
IsClosed store = store.is_open ≡ false
