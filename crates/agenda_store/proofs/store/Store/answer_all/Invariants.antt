use Rattle.std.proofs.Common.{◌≡◌, ◌++◌, List, drop}
use Rattle.sqlite_trees.specs.Tree.{Trees}
use Rattle.sqlite_trees.specs.View.{IsClean}
use Rattle.job_table.specs.Table.{rows_of}
use Rattle.agenda_store.specs.Requests.{answered_all, AllReply}
use Rattle.agenda_store.specs.declared.requests.Reply.{Reply}
use Rattle.agenda_store.proofs.store.Store.answer_all.Given as goal

abbrev pub invariant-loop-request : goal.invariant-loop-request
invariant-loop-request g l = record {
  replies : (more : List Reply) → AllReply (drop l.request-index l.requests) l.self.plan more → AllReply l.requests l.fn.self.plan (l.replies.items ++ more);
  plan : answered_all (drop l.request-index l.requests) l.self.plan ≡ answered_all l.requests l.fn.self.plan;
  clean : IsClean (g.S.Store.view (rows_of l.self.table)) → IsClean (g.S.Store.view (rows_of l.fn.self.table));
  crash : (trees : Trees) → g.S.Store.recovers (rows_of l.self.table) trees → g.S.Store.recovers (rows_of l.fn.self.table) trees;
}
