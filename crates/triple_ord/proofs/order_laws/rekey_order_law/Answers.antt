use Rattle.triple_ord.proofs.RekeyOrder.{rekeyed_order}
use Rattle.triple_ord.proofs.order_laws.rekey_order_law.Goals as goal

pub returns : goal.returns
returns g c = rekeyed_order g.T.SimpleOrdItem.key_of g.T.Key.Ord.cmp g.met.T.Key.Ord.total
