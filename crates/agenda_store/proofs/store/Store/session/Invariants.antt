use Rattle.std.proofs.Common.{◌≡◌, take, length}
use Rattle.sqlite_trees.specs.View.{IsClean}
use Rattle.job_table.specs.Table.{rows_of}
use Rattle.agenda_store.specs.Requests.{after, IsSettled}
use Rattle.agenda_store.specs.History.{AreAnswered}
use Rattle.agenda_store.proofs.store.Store.session.Given as goal

abbrev pub invariant-loop-batch : goal.invariant-loop-batch
invariant-loop-batch g l = record {
  count : length l.replies.items ≡ l.batch-index;
  replies : AreAnswered l.batches l.fn.self.plan l.replies.items;
  plan : l.self.plan ≡ after (take l.batch-index l.batches) l.fn.self.plan;
  clean : IsClean (g.S.Store.view (rows_of l.self.table)) → IsClean (g.S.Store.view (rows_of l.fn.self.table));
  settled : IsClean (g.S.Store.view (rows_of l.self.table)) → IsSettled g.S.Store l.fn.self → IsSettled g.S.Store l.self;
}
