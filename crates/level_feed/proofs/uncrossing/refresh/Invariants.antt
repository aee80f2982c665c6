use Rattle.std.proofs.Common.{◌≤◌, vec_capacity}
use Rattle.level_feed.specs.Feed.{refreshed}
use Rattle.level_feed.proofs.Refreshing.{IsRefreshing}
use Rattle.level_feed.proofs.uncrossing.refresh.Given as goal

-- how far it is
abbrev pub invariant-loop-at : goal.invariant-loop-at
invariant-loop-at g l = record {
  refreshing : IsRefreshing (refreshed l.book) l.fn.from l.fn.updates.items l.at l.updates.items;
  room : vec_capacity l.fn.updates ≤ vec_capacity l.updates;
}
