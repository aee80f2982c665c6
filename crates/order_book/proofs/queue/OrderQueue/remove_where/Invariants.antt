use Rattle.order_book.specs.Queue.{IsDistinct}
use Rattle.order_book.proofs.Retaining.{Retains}
use Rattle.order_book.proofs.queue.OrderQueue.remove_where.Given as goal

-- those that were asked for are kept or gone, and the others are to come
abbrev pub invariant-loop : goal.invariant-loop
invariant-loop g l = record {
  callable : goal.F-IsAlwaysCallable g l.f;
  distinct : IsDistinct l.self.orders;
  retains : Retains g.F.FnMut l.fn.self l.fn.f l.self l.next l.f l.counter;
}
