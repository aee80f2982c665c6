use Rattle.ord_tree.proofs.Halves.{digits_exist}
use Rattle.ord_tree.proofs.laws.digits_exist_law.Goals as goal

pub returns : goal.returns
returns c = digits_exist
