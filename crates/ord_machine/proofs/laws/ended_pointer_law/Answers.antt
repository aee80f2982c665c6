use Rattle.ord_machine.proofs.Ended.{ended_pointer}
use Rattle.ord_machine.proofs.laws.ended_pointer_law.Goals as goal

pub returns : goal.returns
returns g c = ended_pointer _ _ _ _ _ _ _
