use Rattle.order_book.proofs.AtPrice.{top-first}
use Rattle.order_book.proofs.queue.OrderQueue.top.Goals as goal

pub returns : goal.returns
returns g c = top-first c.args.self.now.side c.args.self.now.orders c.levels.ensures.sound.in_order c.next.result c.levels.result c.next.new.self c.levels.ensures.levels c.next.ensures.steps
