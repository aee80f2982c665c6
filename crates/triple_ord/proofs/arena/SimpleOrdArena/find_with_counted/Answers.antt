use Rattle.triple_ord.proofs.Descending.{finds_with-similar}
use Rattle.triple_ord.proofs.arena.SimpleOrdArena.find_with_counted.Goals as goal

pub returns-clause-found : goal.returns-clause-found
returns-clause-found g c = rw c.equal_alone.ensures (finds_with-similar g.P.BasePtr.numbers _ _ _ _ _ _ c.find_similar_with_counted-found.ensures.found)
