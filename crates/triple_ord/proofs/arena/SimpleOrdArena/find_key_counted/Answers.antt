use Rattle.triple_ord.proofs.Inserting.{finds_key-similar}
use Rattle.triple_ord.proofs.arena.SimpleOrdArena.find_key_counted.Goals as goal

pub returns : goal.returns
returns g c =
    let search = c.find_similar_key_counted-found.ensures in
    record { found = rw c.equal_alone.ensures (finds_key-similar _ _ _ _ _ g.P.BasePtr.numbers _ search.found); visits = search.visits; distinct = search.distinct }
