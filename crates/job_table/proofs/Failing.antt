-- What an error of a call on the rows says of a change of the table.
use Rattle.std.proofs.Common.{◌≡◌, false, IsTrue, Result, Ok, Err, IfErr, OnOk, OnErr, IsErrAnd}
use Rattle.sqlite_trees.specs.View.{View, HasCause}
use Rattle.sqlite_trees.specs.declared.error.StoreError.{StoreError as RowsError}
use Rattle.sqlite_trees.specs.declared.error.StoreError.TheVariants as rows
use Rattle.job_table.specs.declared.error.StoreError.{StoreError}
use Rattle.job_table.specs.declared.error.StoreError.TheVariants.{Rows, OutOfMemory, TooLong, TooLate, Full, NotAnAgenda, Closed}
use Rattle.job_table.specs.Causes.{IsRowsCause, IsCause}

-- The rows are not broken, so that is not why they fail.
pub rows_cause : (old : View) (fault unstorable : Type 0) (e : RowsError) → old.is_broken ≡ false → HasCause old fault unstorable e → IsRowsCause fault e
rows_cause old fault unstorable rows.OutOfMemory sound h = tt
rows_cause old fault unstorable rows.Io sound h = h
rows_cause old fault unstorable rows.Corrupt sound h = h
rows_cause old fault unstorable rows.Full sound h = h
rows_cause old fault unstorable rows.Broken sound h = absurd (let e : IsTrue old.is_broken = h in cc)
rows_cause old fault unstorable rows.Unstorable sound h = tt

rows_cause_in : (fault all : Type 0) → (fault → all) → (e : RowsError) → IsRowsCause fault e → IsRowsCause all e
rows_cause_in fault all in' rows.OutOfMemory h = tt
rows_cause_in fault all in' rows.Io h = in' h
rows_cause_in fault all in' rows.Corrupt h = in' h
rows_cause_in fault all in' rows.Full h = in' h
rows_cause_in fault all in' rows.Broken h = h
rows_cause_in fault all in' rows.Unstorable h = tt

-- A cause that is weaker in each part.
pub cause_in : {fault all closed shut full fuller long longer late later : Type 0} → (fault → all) → (closed → shut) → (full → fuller) → (long → longer) → (late → later)
    → (e : StoreError) → IsCause fault closed full long late e → IsCause all shut fuller longer later e
cause_in in' c n l t (Rows e) h = rows_cause_in _ _ in' e h
cause_in in' c n l t OutOfMemory h = tt
cause_in in' c n l t TooLong h = l h
cause_in in' c n l t TooLate h = t h
cause_in in' c n l t Full h = n h
cause_in in' c n l t NotAnAgenda h = h
cause_in in' c n l t Closed h = c h

-- what holds of an error that `?` makes
pub up : {T E : Type 0} (r : Result T E) (Q P : E → Type 0) → IsErrAnd r Q → ((e : E) → Q e → P e) → IfErr r P
up (Ok x) Q P h f = tt
up (Err e) Q P h f = f e h

pub on_err : {T E : Type 0} (r : Result T E) (P : Type 0) → P → OnErr r P
on_err (Ok x) P h = tt
on_err (Err e) P h = h

-- what follows from what holds of an error
pub of_err : {T E : Type 0} (r : Result T E) (P Q : E → Type 0) → ((e : E) → P e → Q e) → IfErr r P → IfErr r Q
of_err (Ok x) P Q f h = tt
of_err (Err e) P Q f h = f e h

pub of_ok : {T E : Type 0} (r : Result T E) (P Q : Type 0) → (P → Q) → OnOk r P → OnOk r Q
of_ok (Ok x) P Q f h = f h
of_ok (Err e) P Q f h = tt
