use Rattle.std.proofs.Common.{◌∙◌, arith}
use Rattle.order_book.proofs.Levels.{all-levels}
use Rattle.order_book.proofs.queue.OrderQueue.levels.Goals as goal

pub returns-clause-levels : goal.returns-clause-levels
returns-clause-levels g c = c.depth.ensures ∙ all-levels 18446744073709551615 c.args.self.now.orders c.len.ensures.sound.summable.few (omega arith)
