use Rattle.std.proofs.Common.{◌∙◌, sym, ap, arith, IsTrue}
use Rattle.sqlite_trees.specs.Tree.{Trees}
use Rattle.sqlite_wal.specs.Reads.{are_clean}
use Rattle.sqlite_store.specs.FileStore.{state}
use Rattle.job_table.proofs.Opening.{is_true, clean_of}
use Rattle.job_table.proofs.file.make.Goals as goal

pub returns-in-Ok-clause-made : goal.returns-in-Ok-clause-made
returns-in-Ok-clause-made g c clean =
    let made = c.in_ok-fresh.ensures in
    let new = c.in-Ok.ensures in
    let well : IsTrue (state c.in-Ok.store).is_clean = is_true _ clean in
    record {
      clean = sym (clean_of c.in_ok-fresh.fresh ∙ ap (λ f. are_clean g.D.Disk f.0 f.1) made.files) ∙ new.honest well;
      empty = ap (λ (t : Trees). t 0) new.ready.clean ∙ new.empty well 0 (omega arith);
      size = (new.kept well).size ∙ made.size;
      schema = new.schema ∙ made.schema;
    }
