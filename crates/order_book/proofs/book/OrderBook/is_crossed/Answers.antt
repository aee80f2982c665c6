use Rattle.order_book.proofs.Crossing.{crossed-best}
use Rattle.order_book.proofs.book.OrderBook.is_crossed.Goals as goal

pub returns : goal.returns
returns g c = crossed-best c.args.self.now c.count.ensures.lawful c.in-Some.bid c.in-Some-best_ask.ask c.in-Some.ensures c.in-Some-best_ask.ensures.value
