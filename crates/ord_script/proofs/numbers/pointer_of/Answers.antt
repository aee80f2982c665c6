use Rattle.std.proofs.{Common.arith, lemmas.Grind.common_steps}
use Rattle.ord_script.proofs.numbers.pointer_of.Goals as goal

pub returns-in_err-generation : goal.returns-in_err-generation
returns-in_err-generation c = grind (arith, common_steps)

pub returns : goal.returns
returns c = grind (arith, common_steps)
