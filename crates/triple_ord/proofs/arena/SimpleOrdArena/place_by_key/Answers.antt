use Rattle.triple_ord.proofs.Places.{placed-by}
use Rattle.triple_ord.proofs.arena.SimpleOrdArena.place_by_key.Goals as goal

pub returns : goal.returns
returns g c =
    let search = c.search-found.ensures in
    placed-by _ _ _ c.args.self.now _ _ _ _ c.args.ties (c.place_found.ensures search.distinct _ c.args.k.now _ search.found) search.visits
