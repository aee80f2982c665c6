use Rattle.triple_ord.proofs.CallerLemmas.{finds-similar}
use Rattle.triple_ord.specs.PastEquals.{order_past_equals}
use Rattle.triple_ord.proofs.arena.SimpleOrdArena.find_behind_key.Goals as goal

pub returns : goal.returns
returns g c =
    let found = c.find_behind_key_counted.ensures.found in
    record {
      finds = finds-similar g.T.SimpleOrdItem.key_of (order_past_equals g.T.Key.Ord.cmp) c.args.self.now c.args.k.now c.find_behind_key_counted.ensures.distinct g.P.BasePtr.numbers _ _ found;
      found = (_, found);
    }
