use Rattle.std.proofs.Common.{◌≤◌, vec_capacity}
use Rattle.order_book.proofs.Filling.{IsFilling}
use Rattle.order_book.proofs.queue.OrderQueue.fill.Given as goal

-- how far it is, and the list has at least the room that it had
abbrev pub invariant-loop-order : goal.invariant-loop-order
invariant-loop-order g l = record {
  filling : IsFilling l.fn.price l.fn.quantity l.fn.self.orders l.fn.trades.items l.left l.trades.items l.order-iterator;
  room : vec_capacity l.fn.trades ≤ vec_capacity l.trades;
}
