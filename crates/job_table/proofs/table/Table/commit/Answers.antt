use Rattle.std.proofs.Common.{◌∙◌, sym, subst}
use Rattle.sqlite_trees.specs.Tree.{Trees}
use Rattle.job_table.specs.Causes.{HasFault, IsCause}
use Rattle.job_table.proofs.Failing.{up, on_err, rows_cause}
use Rattle.job_table.proofs.table.Table.commit.Goals as goal

pub returns-in_err-commit-clause-cause : goal.returns-in_err-commit-clause-cause
returns-in_err-commit-clause-cause g c = up c.from_residual.result _ _ c.from_residual.ensures.1 (λ e is clean plan h.
    let old = c.args.self.now.rows in
    subst (IsCause (HasFault g.S.Store old c.commit.new.self) ⊥ ⊥ ⊥ ⊥) (sym is)
    (rows_cause (g.S.Store.view old) (HasFault g.S.Store old c.commit.new.self) ⊥ c.in_err-commit.field-0.0 h.sound (c.in_err-commit.ensures.cause clean)))

pub returns-in_err-commit-clause-undone : goal.returns-in_err-commit-clause-undone
returns-in_err-commit-clause-undone g c = on_err c.from_residual.result _ (λ clean open' trees h.
    let old = c.args.self.now.rows in
    let kept = c.in_err-commit.ensures.err.kept clean in
    let same = g.met.S.Store.settled c.commit.new.self trees open' h ∙ kept.committed open' in
    subst (λ (t : Trees). g.S.Store.recovers old t) (sym same) (g.met.S.Store.stays old (kept.was_open open')))
