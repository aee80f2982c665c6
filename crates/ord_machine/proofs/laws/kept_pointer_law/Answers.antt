use Rattle.ord_machine.proofs.Kept.{kept_pointer}
use Rattle.ord_machine.proofs.laws.kept_pointer_law.Goals as goal

pub returns : goal.returns
returns g c = kept_pointer _ _ _ _ _ _ _
