use Rattle.std.proofs.Common.{◌<◌, ◌∷◌, subst, arith}
use Rattle.order_book.proofs.{Filling.IsFilling, Filling.filling-room, Trading.owed}
use Rattle.order_book.proofs.queue.OrderQueue.fill.Goals as goal

pub returns-then-is_err-clause-memory : goal.returns-then-is_err-clause-memory
returns-then-is_err-clause-memory g c =
    let before = c.args.trades.now.items in
    let now : IsFilling c.args.price c.args.quantity c.args.self.now.orders before c.loop-order.left c.loop-order.trades.items (c.in-Some.order ∷ c.next.new.self) =
    subst (IsFilling c.args.price c.args.quantity c.args.self.now.orders before c.loop-order.left c.loop-order.trades.items) c.in-Some.ensures.steps c.loop-order.invariant.filling in
    let wanted : 0 < c.loop-order.left = omega (arith, c.if-left-eq0.false) in
    omega (
      arith,
      c.loop-order.invariant.room,
      c.loop-order.trades.ok.0,
      owed c.push.result c.if-is_err.ensures.value c.push.ensures.full,
      filling-room c.args.price c.args.quantity c.args.self.now.orders before c.loop-order.left c.loop-order.trades.items c.in-Some.order c.next.new.self now wanted,
    )
