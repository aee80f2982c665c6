use Rattle.ord_tree.proofs.Halves.{rebuilt_exists}
use Rattle.ord_tree.proofs.laws.rebuilt_exists_law.Goals as goal

pub returns : goal.returns
returns c = rebuilt_exists
