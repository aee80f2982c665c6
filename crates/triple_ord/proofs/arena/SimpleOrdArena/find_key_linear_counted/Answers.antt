use Rattle.triple_ord.proofs.{Inserting.finds_key-similar, Stepping.FindsSimilar-more, Stepping.hinted-whole, Words.◌-◌, Words.arith, Words.common_steps}
use Rattle.triple_ord.proofs.arena.SimpleOrdArena.find_key_linear_counted.Goals as goal

pub returns-clause-found : goal.returns-clause-found
returns-clause-found g c =
    let found = rw c.step_along-near.ensures.tree at c.descend_by_key-found.ensures.found in
    let visits = c.descend_by_key-found.new.probe.visits - c.step_along-near.new.probe.visits in
    rw (← c.self.view_is, ← c.new-probe.ensures.tree, c.visits.ensures, c.equal_alone.ensures)
    (finds_key-similar g.T.SimpleOrdItem.key_of g.T.Key.Ord.cmp _ _ _ g.P.BasePtr.numbers _
    (FindsSimilar-more g.T.SimpleOrdItem.key_of g.T.Key.Ord.cmp _ _ _ visits _ (omega arith) found))

pub returns-clause-visits : goal.returns-clause-visits
returns-clause-visits g c =
    let near = c.step_along-near.ensures in
    let bounded = rw near.tree at c.descend_by_key-found.ensures.visits in
    rw (← c.self.view_is, ← c.new-probe.ensures.tree, c.visits.ensures)
    (hinted-whole _ _ _ _ _ near.few near.within c.descend_by_key-found.ensures.counted bounded)

pub returns-clause-unhinted : goal.returns-clause-unhinted
returns-clause-unhinted g c = grind (arith, common_steps)
