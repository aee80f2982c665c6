use Rattle.std.proofs.{Common.arith, lemmas.Grind.common_steps}
use Rattle.order_book.proofs.queue.OrderQueue.take_first.Goals as goal

pub returns-then-left-eq0-clause-rest : goal.returns-then-left-eq0-clause-rest
returns-then-left-eq0-clause-rest g c = grind (arith, common_steps)
