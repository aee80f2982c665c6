use Rattle.triple_ord.proofs.Places.{found-alone, found-at}
use Rattle.triple_ord.proofs.arena.SimpleOrdArena.place_found.Goals as goal

pub returns-in-None : goal.returns-in-None
returns-in-None g c distinct cmp k visits found =
    found-alone g.P.BasePtr.numbers g.T.SimpleOrdItem.key_of cmp c.args.self.now k visits (rw c.in-None.is at found)

pub returns-in-Some : goal.returns-in-Some
returns-in-Some g c distinct cmp k visits found =
    rw c.place_at.ensures
    (found-at g.P.BasePtr.numbers g.T.SimpleOrdItem.key_of cmp c.args.self.now k visits distinct c.in-Some.at.0 c.in-Some.at.1 (rw c.in-Some.is at found))
