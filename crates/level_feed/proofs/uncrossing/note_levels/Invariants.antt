use Rattle.std.proofs.Common.{◌≤◌, vec_capacity}
use Rattle.order_book.specs.Book.{queue}
use Rattle.level_feed.specs.Feed.{prices_taken}
use Rattle.level_feed.proofs.Auctioning.{IsNoting}
use Rattle.level_feed.proofs.uncrossing.note_levels.Given as goal

-- how far the list is, and it has at least the room that it had
abbrev pub invariant-loop-level : goal.invariant-loop-level
invariant-loop-level g l = record {
  noting : IsNoting l.book l.side (prices_taken l.quantity (queue l.book l.side)) l.fn.updates.items l.left l.updates.items l.level-iterator;
  room : vec_capacity l.fn.updates ≤ vec_capacity l.updates;
}
