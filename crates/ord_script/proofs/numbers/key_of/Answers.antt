use Rattle.std.proofs.{Common.arith, lemmas.Grind.common_steps}
use Rattle.ord_script.proofs.numbers.key_of.Goals as goal

pub returns-in_ok-magnitude-in-45 : goal.returns-in_ok-magnitude-in-45
returns-in_ok-magnitude-in-45 c = grind (arith, common_steps)
