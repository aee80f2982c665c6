use Rattle.triple_ord.proofs.Places.{placed-near}
use Rattle.triple_ord.proofs.arena.SimpleOrdArena.place_near.Goals as goal

pub returns : goal.returns
returns g c =
    let search = c.search_from-found.ensures in
    placed-near _ _ _ c.args.self.now _ _ _ _ c.args.p_init c.args.num search.visits search.unhinted search.near c.args.ties
    (c.place_found.ensures search.distinct _ c.args.k.now _ search.found)
