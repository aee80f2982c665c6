use Rattle.ord_machine.proofs.Ascending.{ascending_keys}
use Rattle.ord_machine.proofs.laws.ascending_keys_law.Goals as goal

pub returns : goal.returns
returns g c = ascending_keys _ _ _ _ _ _ _
