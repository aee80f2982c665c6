use Rattle.triple_ord.proofs.Words.{◌≡◌, ◌-◌, arith}
use Rattle.triple_ord.proofs.arena.SimpleOrdArena.search.Goals as goal

pub returns : goal.returns
returns g c =
    let all : c.descend_by_key-found.new.probe.visits - c.new-probe.result.visits ≡ c.descend_by_key-found.new.probe.visits = omega (arith, c.new-probe.ensures.none) in
    rw (← c.self.view_is, ← c.new-probe.ensures.tree, c.visits.ensures)
    (record { found = rw all at c.descend_by_key-found.ensures.found; visits = rw all at c.descend_by_key-found.ensures.visits; distinct = c.new-probe.result.distinct })
