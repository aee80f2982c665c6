-- Why a call fails.
use Rattle.std.specs.Prelude.{⊤}
use Rattle.sqlite_disk.specs.Disk.{MoreFaults}
use Rattle.sqlite_trees.specs.declared.error.StoreError.{StoreError as RowsError}
use Rattle.sqlite_trees.specs.declared.error.StoreError.TheVariants as rows
use Rattle.sqlite_trees.specs.declared.store.Store.{Ghosts}
use Rattle.job_table.specs.declared.error.StoreError.{StoreError}
use Rattle.job_table.specs.declared.error.StoreError.TheVariants.{Rows, OutOfMemory, TooLong, TooLate, Full, NotAnAgenda, Closed}

-- Between these two states the disk failed or refused, or a limit of its format was met.
abbrev pub HasFault : {S : Type 0} → Ghosts S → S → S → Type 0
HasFault g old new = MoreFaults (g.faults old) (g.faults new)

-- why the rows of an open table fail, where `fault` says that the disk did
abbrev pub IsRowsCause : Type 0 → RowsError → Type 0
IsRowsCause fault rows.OutOfMemory = ⊤
IsRowsCause fault rows.Io = fault
IsRowsCause fault rows.Corrupt = fault
IsRowsCause fault rows.Full = fault
IsRowsCause fault rows.Broken = ⊥
IsRowsCause fault rows.Unstorable = ⊤

-- Why a change of a table fails: `fault` says that the disk did, `closed` that the table is closed, `full` that a number is too great
-- for a row, `long` that the bytes are too many, and `late` that the deadline is too late.
abbrev pub IsCause : Type 0 → Type 0 → Type 0 → Type 0 → Type 0 → StoreError → Type 0
IsCause fault closed full long late (Rows e) = IsRowsCause fault e
IsCause fault closed full long late OutOfMemory = ⊤
IsCause fault closed full long late TooLong = long
IsCause fault closed full long late TooLate = late
IsCause fault closed full long late Full = full
IsCause fault closed full long late NotAnAgenda = ⊥
IsCause fault closed full long late Closed = closed
