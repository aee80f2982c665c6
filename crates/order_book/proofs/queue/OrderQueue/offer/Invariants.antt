use Rattle.std.proofs.Common.{◌≤◌, vec_capacity}
use Rattle.order_book.proofs.Trading.{IsOffering}
use Rattle.order_book.proofs.queue.OrderQueue.offer.Given as goal

-- how far the offer is, and the list has at least the room that it had
abbrev pub invariant-loop-order : goal.invariant-loop-order
invariant-loop-order g l = record {
  offering : IsOffering l.fn.self l.fn.limit l.fn.quantity l.fn.trades.items l.left l.trades.items l.order-iterator;
  room : vec_capacity l.fn.trades ≤ vec_capacity l.trades;
}
