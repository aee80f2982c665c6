use Rattle.triple_ord.proofs.OrderLaws.{answered_in_order}
use Rattle.triple_ord.proofs.order_laws.answered_in_order_law.Goals as goal

pub returns : goal.returns
returns g c = answered_in_order _
