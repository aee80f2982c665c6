use Rattle.tree_picture.proofs.LayoutLaws.{sides}
use Rattle.tree_picture.proofs.laws.sides_law.Goals as goal

pub returns : goal.returns
returns c = sides
