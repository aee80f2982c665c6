use Rattle.ord_machine.proofs.InOrder.{ordered_keys}
use Rattle.ord_machine.proofs.laws.ordered_keys_law.Goals as goal

pub returns : goal.returns
returns g c = ordered_keys _ _ _ _ _ _ _
