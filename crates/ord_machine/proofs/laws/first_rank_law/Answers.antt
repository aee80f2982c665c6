use Rattle.ord_machine.proofs.FirstRank.{first_rank}
use Rattle.ord_machine.proofs.laws.first_rank_law.Goals as goal

pub returns : goal.returns
returns g c = first_rank _ _ _ _ _ _ _
