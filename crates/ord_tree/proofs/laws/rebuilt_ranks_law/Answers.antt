use Rattle.ord_tree.proofs.Halves.{IsRanked-from_rebuilt}
use Rattle.ord_tree.proofs.laws.rebuilt_ranks_law.Goals as goal

pub returns : goal.returns
returns c = IsRanked-from_rebuilt
