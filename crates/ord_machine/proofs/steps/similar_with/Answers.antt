use Rattle.std.proofs.{Common.arith, Common.rules, lemmas.Grind.common_steps}
use Rattle.ord_machine.proofs.steps.similar_with.Goals as goal

pub returns : goal.returns
returns g c = record { does = grind (arith, common_steps); callable = search rules }
