use Rattle.std.proofs.Common.{ℕ, Bool, cond, List, ap₂, subst, IfOk}
use Rattle.sqlite_disk.specs.Events.{Event, replay}
use Rattle.sqlite_wal.specs.Recovery.{Image}
use Rattle.sqlite_trees.specs.View.{IsClean}
use Rattle.sqlite_store.specs.FileStore.{view}
use Rattle.job_table.specs.File.{IsFoundIn}
use Rattle.job_table.proofs.file.open_file.Goals as goal

abbrev pair : List ℕ → List ℕ → Image
pair log db = record { log = log; db = db }

-- what the log or the database file reads as after these calls
abbrev read_after : List ℕ → List ℕ → Bool → List Event → List ℕ
read_after log db is_log events = (replay (cond is_log log db) events).seen

pub returns-clause-found : goal.returns-clause-found
returns-clause-found g c =
    let fresh = c.in_ok-files.ensures.fresh in
    let reads = read_after g.S.Start.log g.S.Start.db in
    let same = ap₂ pair (ap₂ reads fresh.0.0 fresh.0.1) (ap₂ reads fresh.1.0 fresh.1.1) in
    subst (λ (i : Image). IfOk c.open_rows.result (λ it. IsClean (view it) → IsFoundIn i it)) same c.open_rows.ensures.found
