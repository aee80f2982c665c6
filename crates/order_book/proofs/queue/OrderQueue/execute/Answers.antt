use Rattle.std.proofs.Common.{refl}
use Rattle.order_book.proofs.Executing.{reduced-by_none, executed-some}
use Rattle.order_book.proofs.queue.OrderQueue.execute.Goals as goal

pub returns-then-quantity-eq0-clause-changes : goal.returns-then-quantity-eq0-clause-changes
returns-then-quantity-eq0-clause-changes g c = record {
  updates = record {
    changed = rw c.if-quantity-eq0.true (reduced-by_none c.args.pointer c.args.self.now.orders c.len.ensures.sound.some_left);
    others = λ q apart. refl;
  };
  none = refl;
}

pub returns-clause-some : goal.returns-clause-some
returns-clause-some g c = rw (c.trade.ensures, c.min.ensures) (executed-some c.args.pointer c.args.self.now.orders c.len.ensures.sound.some_left c.in_ok-order.order c.args.quantity c.in_ok-order.ensures c.if-quantity-eq0.false)
