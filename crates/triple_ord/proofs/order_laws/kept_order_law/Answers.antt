use Rattle.triple_ord.proofs.KeptOrder.{kept_order}
use Rattle.triple_ord.proofs.order_laws.kept_order_law.Goals as goal

pub returns : goal.returns
returns g c = kept_order g.P.BasePtr.numbers g.T.SimpleOrdItem.key_of g.T.Key.Ord.cmp g.met.T.Key.Ord.total
