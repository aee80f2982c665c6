use Rattle.ord_tree.proofs.Halves.{height-rebuilt}
use Rattle.ord_tree.proofs.laws.rebuilt_height_law.Goals as goal

pub returns : goal.returns
returns c = height-rebuilt
