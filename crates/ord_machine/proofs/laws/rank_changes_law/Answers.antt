use Rattle.ord_machine.proofs.RankChanges.{rank_changes}
use Rattle.ord_machine.proofs.laws.rank_changes_law.Goals as goal

pub returns : goal.returns
returns g c = rank_changes _ _ _ _ _ _ _
