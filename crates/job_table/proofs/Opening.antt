-- What the two files of an open are.
use Rattle.std.proofs.Common.{◌≡◌, ◌<◌, ℕ, Bool, true, false, List, IsTrue, Result, Ok, Err, IfOk, refl, sym, ap, ap₂, ◌∙◌, arith}
use Rattle.sqlite_disk.specs.declared.Disk.{Ghosts}
use Rattle.sqlite_wal.specs.Reads.{are_clean, OnlyReads}
use Rattle.sqlite_wal.specs.Files.{seen_image}
use Rattle.sqlite_wal.specs.Recovery.{Image}
use Rattle.sqlite_pool.specs.Pool.{state, files}
use Rattle.sqlite_trees.specs.View.{doubt}
use Rattle.sqlite_store.specs.Unopened.{state_of, files_of}
use Rattle.sqlite_store.specs.declared.store.open.Unopened.{Unopened}

pub is_true : (b : Bool) → doubt b ≡ 0 → IsTrue b
unfolding doubt
is_true true e = refl
is_true false e = absurd (omega (arith, e))

-- The state is clean if and only if both files are.
pub clean_of : {D : Type 0} {g : Ghosts D} (it : Unopened D g) → (state_of it).is_clean ≡ are_clean g (files_of it).0 (files_of it).1
unfolding state files
clean_of it = refl

abbrev pair : List ℕ → List ℕ → Image
pair log db = record { log = log; db = db }

pub same_image : {D : Type 0} {g : Ghosts D} (log db log' db' : D) → OnlyReads g log log' → OnlyReads g db db' → seen_image g log' db' ≡ seen_image g log db
same_image log db log' db' one two = ap₂ pair one.seen two.seen

-- what follows from what holds of a value
pub of_value : {T E : Type 0} (r : Result T E) (P Q : T → Type 0) → ((x : T) → P x → Q x) → IfOk r P → IfOk r Q
of_value (Ok x) P Q f h = f x h
of_value (Err e) P Q f h = tt
