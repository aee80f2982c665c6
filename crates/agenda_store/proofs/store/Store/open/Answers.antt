use Rattle.std.proofs.Common.{inl, inr, sym, subst}
use Rattle.job_table.specs.Table.{TreesStandFor}
use Rattle.agenda_store.proofs.Replying.{both_ok}
use Rattle.job_table.proofs.CallerLemmas.{of_err}
use Rattle.agenda_store.proofs.store.Store.open.Goals as goal

pub returns-in-Ok-true-clause-crash_err : goal.returns-in-Ok-true-clause-crash_err
returns-in-Ok-true-clause-crash_err g c = of_err c.begin.result _ _ (λ e left clean trees h. elim (left clean trees h) [
  | inl begun ↦ inl begun
  | inr old ↦ inr (c.is_unused.ensures.quiet.outcomes trees old)
]) c.begin.ensures.crash_err

pub returns-in-Ok-true-clause-crash : goal.returns-in-Ok-true-clause-crash
returns-in-Ok-true-clause-crash g c = both_ok c.begin.result _ _ _ (λ store plan crash clean trees h. inl (subst (TreesStandFor trees) (sym plan) (crash clean trees h)))
    c.begin.ensures.plan c.begin.ensures.crash
