use Rattle.std.proofs.{Common.arith, lemmas.Grind.common_steps}
use Rattle.ord_machine.proofs.steps.canonical.Goals as goal

pub returns : goal.returns
returns g c = grind (arith, common_steps)
