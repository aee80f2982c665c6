use Rattle.tree_picture.proofs.LayoutLaws.{inside}
use Rattle.tree_picture.proofs.laws.inside_law.Goals as goal

pub returns : goal.returns
returns c = inside
