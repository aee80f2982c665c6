use Rattle.std.proofs.Common.{◌≡◌, ◌+◌}
use Rattle.order_book.specs.Queue.{within}
use Rattle.order_book.proofs.Levels.{AreInOrder, offers}
use Rattle.order_book.proofs.queue.OrderQueue.volume_within.Given as goal

-- what was summed up and what is still to come is all
abbrev pub invariant-loop-level : goal.invariant-loop-level
invariant-loop-level g l = record {
  sum : l.volume + offers l.fn.self.side l.fn.limit l.level-iterator ≡ within l.fn.self.side l.fn.limit l.fn.self.orders;
  sorted : AreInOrder l.fn.self.side l.level-iterator;
}
