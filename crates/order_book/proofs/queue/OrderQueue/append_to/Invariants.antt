use Rattle.std.proofs.Common.{◌≡◌, ◌+◌, ◌≤◌, ◌++◌, length, vec_capacity}
use Rattle.order_book.proofs.queue.OrderQueue.append_to.Given as goal

-- the orders of the list and those to come are all, and the list has room for them
abbrev pub invariant-loop-order : goal.invariant-loop-order
invariant-loop-order g l = record {
  orders : l.orders.items ++ l.order-iterator ≡ l.fn.orders.items ++ l.fn.self.orders;
  room : length l.orders.items + length l.order-iterator ≤ vec_capacity l.orders;
  capacity : vec_capacity l.fn.orders ≤ vec_capacity l.orders;
}
