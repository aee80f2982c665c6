use Rattle.ord_tree.proofs.Sizes.{fib-le-size}
use Rattle.ord_tree.proofs.laws.tight_rank_law.Goals as goal

pub returns : goal.returns
returns c = fib-le-size
