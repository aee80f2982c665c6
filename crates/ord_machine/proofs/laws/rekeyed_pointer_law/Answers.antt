use Rattle.ord_machine.proofs.Kept.{rekeyed_pointer}
use Rattle.ord_machine.proofs.laws.rekeyed_pointer_law.Goals as goal

pub returns : goal.returns
returns g c = rekeyed_pointer _ _ _ _ _ _ _
