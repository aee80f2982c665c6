use Rattle.tree_picture.proofs.LayoutLaws.{levels}
use Rattle.tree_picture.proofs.laws.levels_law.Goals as goal

pub returns : goal.returns
returns c = levels
