use Rattle.std.proofs.Common.{◌≡◌, ◌≤◌, ◌+◌, min}
use Rattle.order_book.specs.Queue.{traded}
use Rattle.order_book.proofs.Levels.{AreInOrder, offers}
use Rattle.order_book.proofs.queue.OrderQueue.offered.Given as goal

-- what is left would still trade with the levels to come
abbrev pub invariant-loop-level : goal.invariant-loop-level
invariant-loop-level g l = record {
  owed : l.left + traded l.fn.self l.fn.limit l.fn.quantity ≡ l.fn.quantity + min l.left (offers l.fn.self.side l.fn.limit l.level-iterator);
  most : l.left ≤ l.fn.quantity;
  sorted : AreInOrder l.fn.self.side l.level-iterator;
}
