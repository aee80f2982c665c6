use Rattle.tree_picture.proofs.LayoutLaws.{columns}
use Rattle.tree_picture.proofs.laws.columns_law.Goals as goal

pub returns : goal.returns
returns c = columns
