use Rattle.std.proofs.{Common.arith, lemmas.Grind.common_steps}
use Rattle.ord_machine.proofs.steps.entries.Goals as goal

pub loop-p-preserved : goal.loop-p-preserved
loop-p-preserved g c = grind (arith, common_steps)
