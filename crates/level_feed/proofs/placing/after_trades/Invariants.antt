use Rattle.std.proofs.Common.{◌≤◌, drop, vec_capacity}
use Rattle.level_feed.proofs.Publishing.{IsPublishing}
use Rattle.level_feed.proofs.placing.after_trades.Given as goal

-- how far the list is, and it has at least the room that it had
abbrev pub invariant-loop-trade : goal.invariant-loop-trade
invariant-loop-trade g l = record {
  publishing : IsPublishing l.book l.side l.trades l.fn.updates.items l.last l.updates.items (drop l.trade-index l.trades);
  room : vec_capacity l.fn.updates ≤ vec_capacity l.updates;
}
