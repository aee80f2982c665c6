use Rattle.std.proofs.{Common.arith, lemmas.Grind.common_steps}
use Rattle.order_book.proofs.settling.rest.Goals as goal

pub returns-clause-rests : goal.returns-clause-rests
returns-clause-rests g c = grind (arith, common_steps)

pub returns-clause-names : goal.returns-clause-names
returns-clause-names g c = grind (arith, common_steps)
