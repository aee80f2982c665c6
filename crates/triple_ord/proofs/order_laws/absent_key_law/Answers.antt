use Rattle.triple_ord.proofs.OrderLaws.{absent_key}
use Rattle.triple_ord.proofs.order_laws.absent_key_law.Goals as goal

pub returns : goal.returns
returns g c = absent_key g.T.SimpleOrdItem.key_of g.T.Key.Ord.cmp g.met.T.Key.Ord.total
