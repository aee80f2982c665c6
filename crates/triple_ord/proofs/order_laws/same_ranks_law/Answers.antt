use Rattle.triple_ord.proofs.OrderLaws.{same_ranks}
use Rattle.triple_ord.proofs.order_laws.same_ranks_law.Goals as goal

pub returns : goal.returns
returns c = same_ranks
