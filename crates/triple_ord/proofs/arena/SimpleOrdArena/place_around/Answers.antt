use Rattle.triple_ord.proofs.{Words.◌≡◌, Words.◌-◌, Words.arith, Rekeying.around-sided}
use Rattle.triple_ord.proofs.arena.SimpleOrdArena.place_around.Goals as goal

pub returns : goal.returns
returns g c =
    let all : c.descend_around.new.probe.visits - c.new-probe.result.visits ≡ c.descend_around.new.probe.visits = omega (arith, c.new-probe.ensures.none) in
    rw (← c.self.view_is, ← c.new-probe.ensures.tree, ← c.inx.ensures, c.visits.ensures, c.beside-found.ensures)
    (record {
      found = around-sided _ _ _ _ _ g.P.BasePtr.numbers _ _ (rw all at c.descend_around.ensures.found);
      visits = rw all at c.descend_around.ensures.visits;
      distinct = c.new-probe.result.distinct;
    })
