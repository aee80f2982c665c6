use Rattle.ord_machine.proofs.Bounded.{within_hinted, within_unhinted}
use Rattle.ord_machine.proofs.steps.similar_linear.Goals as goal

pub returns : goal.returns
returns g c = λ marks holds.
    let search = c.find_similar_key_linear_counted-found.ensures in
    rw c.count.ensures (search.found, within_hinted _ marks holds _ _ search.visits, within_unhinted _ marks holds _ _ search.unhinted, search.near)
