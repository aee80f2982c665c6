use Rattle.ord_tree.proofs.Sizes.{height-le-rank}
use Rattle.ord_tree.proofs.laws.height_law.Goals as goal

pub returns : goal.returns
returns c = height-le-rank
