use Rattle.tree_picture.proofs.LayoutLaws.{nodes}
use Rattle.tree_picture.proofs.laws.nodes_law.Goals as goal

pub returns : goal.returns
returns c = nodes
