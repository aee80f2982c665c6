use Rattle.std.proofs.{Common.arith, lemmas.Grind.common_steps}
use Rattle.ord_machine.proofs.steps.reserve.Goals as goal

pub returns-in-Err-BeyondMaxCapacity : goal.returns-in-Err-BeyondMaxCapacity
returns-in-Err-BeyondMaxCapacity g c = grind (arith, common_steps)
