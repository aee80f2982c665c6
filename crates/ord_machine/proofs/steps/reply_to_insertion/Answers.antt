use Rattle.std.proofs.{Common.arith, lemmas.Grind.common_steps}
use Rattle.ord_machine.proofs.steps.reply_to_insertion.Goals as goal

pub returns-after-before : goal.returns-after-before
returns-after-before g c = grind (arith, common_steps)
