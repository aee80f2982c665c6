use Rattle.ord_tree.proofs.Sizes.{square-ge-power}
use Rattle.ord_tree.proofs.laws.rank_square_law.Goals as goal

pub returns : goal.returns
returns c = square-ge-power
