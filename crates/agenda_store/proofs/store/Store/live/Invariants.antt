use Rattle.std.proofs.Common.{take}
use Rattle.sqlite_trees.specs.View.{IsClean}
use Rattle.job_table.specs.Table.{rows_of}
use Rattle.agenda_store.specs.Requests.{IsSettled}
use Rattle.agenda_store.specs.History.{IsHistory}
use Rattle.agenda_store.proofs.store.Store.live.Given as goal

abbrev pub invariant-loop-session : goal.invariant-loop-session
invariant-loop-session g l = record {
  settled : IsClean (g.S.Store.view (rows_of l.self.table)) → IsSettled g.S.Store l.fn.self → IsSettled g.S.Store l.self;
  history : IsClean (g.S.Store.view (rows_of l.self.table)) → IsSettled g.S.Store l.fn.self
      → IsHistory (take l.session-index l.sessions) l.told.items l.fn.self.plan l.self.plan;
}
