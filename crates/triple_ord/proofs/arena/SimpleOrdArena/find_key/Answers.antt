use Rattle.triple_ord.proofs.CallerLemmas.{finds-key}
use Rattle.triple_ord.proofs.arena.SimpleOrdArena.find_key.Goals as goal

pub returns : goal.returns
returns g c =
    let found = c.find_key_counted.ensures.found in
    record { finds = finds-key _ _ c.args.self.now _ c.find_key_counted.ensures.distinct g.P.BasePtr.numbers _ _ found; found = (_, found) }
