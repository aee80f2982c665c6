use Rattle.tree_picture.proofs.LayoutLaws.{apart}
use Rattle.tree_picture.proofs.laws.apart_law.Goals as goal

pub returns : goal.returns
returns c = apart
