use Rattle.std.proofs.{Common.arith, lemmas.Grind.common_steps}
use Rattle.ord_script.proofs.script.parse.Goals as goal

pub returns-in-Some-Err : goal.returns-in-Some-Err
returns-in-Some-Err g c = grind (arith, common_steps)
