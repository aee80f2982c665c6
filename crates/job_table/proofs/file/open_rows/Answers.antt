use Rattle.std.proofs.Common.{◌≡◌, ◌∙◌, inl, inr, sym, ap, ap₂, subst, ℕ, List, IsTrue, map}
use Rattle.std.proofs.Math.Path.{subst₃}
use Rattle.sqlite_wal.specs.Reads.{are_clean}
use Rattle.sqlite_wal.specs.Files.{seen_image}
use Rattle.sqlite_wal.specs.Recovery.{Image}
use Rattle.sqlite_pool.specs.Opening.{IsBlankFile}
use Rattle.sqlite_pool.specs.Stored.{Recovers}
use Rattle.sqlite_store.specs.declared.catalog.Wanted.{Wanted}
use Rattle.sqlite_store.specs.FileStore.{state, schema_of}
use Rattle.sqlite_store.specs.Opening.{FailsToOpen}
use Rattle.sqlite_store.specs.Unopened.{state_of, wanted_by, files_of, image, HasFileAs}
use Rattle.job_table.specs.File.{HasDatabase}
use Rattle.job_table.proofs.Opening.{is_true, clean_of, same_image, of_value}
use Rattle.job_table.proofs.file.open_rows.Goals as goal

pub returns-then-is_blank-clause-found : goal.returns-then-is_blank-clause-found
returns-then-is_blank-clause-found g c = of_value c.make.result _ _ (λ it made clean.
    let m = made clean in
    let first = seen_image g.D.Disk c.args.files.log c.args.files.db in
    inr (inl (subst (λ (n : ℕ). IsBlankFile n first) (sym m.size) ((c.in-Ok.ensures.ok m.clean).0 c.if-is_blank.true)), m.empty)) c.make.ensures.made

pub returns-in-Ok-open_numbered-clause-found : goal.returns-in-Ok-open_numbered-clause-found
returns-in-Ok-open_numbered-clause-found g c clean =
    let it = c.in-Ok-open_numbered.store in
    let fresh = c.in_ok-fresh.fresh in
    let well : IsTrue (state it).is_clean = is_true _ clean in
    let read = c.probe_blank.ensures in
    let seen : image fresh ≡ seen_image g.D.Disk c.args.files.log c.args.files.db =
    ap (λ f. seen_image g.D.Disk f.0 f.1) c.in_ok-fresh.ensures.files ∙ same_image _ _ _ _ read.log read.db in
    let size : (state it).page_size ≡ (state_of fresh).page_size = (c.in-Ok-open_numbered.ensures.kept well).size in
    let found = c.in-Ok-open_numbered.ensures.found well in
    inl (subst (λ (n : ℕ). Recovers n (seen_image g.D.Disk c.args.files.log c.args.files.db) (state it).committed) (sym size)
    (subst (λ (i : Image). Recovers (state_of fresh).page_size i (state it).committed) seen found))

pub returns-in-Err-Refused-default-clause-found : goal.returns-in-Err-Refused-default-clause-found
returns-in-Err-Refused-default-clause-found g c = of_value c.make-in-Err-Refused-default.result _ _ (λ it made clean.
    let m = made clean in
    let fresh = c.in_ok-fresh.fresh in
    let left = c.in-Err-Refused-default.left in
    let read = c.probe_blank.ensures in
    let seen : image fresh ≡ seen_image g.D.Disk c.args.files.log c.args.files.db =
    ap (λ f. seen_image g.D.Disk f.0 f.1) c.in_ok-fresh.ensures.files ∙ same_image _ _ _ _ read.log read.db in
    let well : IsTrue (state_of left).is_clean = clean_of left ∙ sym (ap (λ f. are_clean g.D.Disk f.0 f.1) c.close.ensures) ∙ m.clean in
    let size : (state it).page_size ≡ (state_of fresh).page_size = m.size ∙ sym c.in_ok-fresh.ensures.size in
    let schema : schema_of it ≡ wanted_by fresh = m.schema ∙ sym c.in_ok-fresh.ensures.schema in
    let none = rw c.in-Err-Refused-default.field-0-0-is at (c.in-Err-Refused-default.ensures.cause well) in
    inr (inr (λ has. none (subst₃ HasDatabase size schema (sym seen) has)), m.empty)) c.make-in-Err-Refused-default.ensures.made
