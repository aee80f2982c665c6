use Rattle.triple_ord.proofs.OrderLaws.{beside_place}
use Rattle.triple_ord.proofs.order_laws.beside_place_law.Goals as goal

pub returns : goal.returns
returns g c = beside_place g.T.SimpleOrdItem.key_of g.T.Key.Ord.cmp g.met.T.Key.Ord.total
