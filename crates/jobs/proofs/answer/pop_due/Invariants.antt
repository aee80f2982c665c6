use Rattle.sqlite_trees.specs.Tree.{Trees}
use Rattle.sqlite_trees.specs.View.{IsClean}
use Rattle.agenda_store.specs.Table.{rows_of}
use Rattle.jobs.proofs.Popping.{HasPopped}
use Rattle.jobs.proofs.answer.pop_due.Given as goal

abbrev pub invariant-jobs : goal.invariant-jobs
invariant-jobs g l = record {
  popped : HasPopped l.style l.now l.fn.store.plan l.store.plan l.shown;
  clean : IsClean (g.S.Store.view (rows_of l.store.table)) → IsClean (g.S.Store.view (rows_of l.fn.store.table));
  crash : (trees : Trees) → g.S.Store.recovers (rows_of l.store.table) trees → g.S.Store.recovers (rows_of l.fn.store.table) trees;
}
