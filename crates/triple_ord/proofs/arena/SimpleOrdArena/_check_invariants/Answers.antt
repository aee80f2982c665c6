use Rattle.triple_ord.proofs.{OrderLaws.in_order-one, OrderLaws.in_order-step, OrderLaws.in_order-not, Words.refl, Words.sym}
use Rattle.triple_ord.proofs.arena.SimpleOrdArena._check_invariants.Goals as goal

pub returns-clause-in_order : goal.returns-clause-in_order
returns-clause-in_order g c =
    let order = c.loop-entry.invariant in
    (λ h. order.1 (rw c.in-None.ensures.steps.0 (in_order-one g.T.SimpleOrdItem.key_of g.T.Key.Ord.cmp _)), λ h. refl)

pub returns-then-is_gt-clause-in_order : goal.returns-then-is_gt-clause-in_order
returns-then-is_gt-clause-in_order g c =
    let order = c.loop-entry.invariant in
    let met = c.in-Some-entry.ensures.steps in
    let is = rw (c.key.ensures, c.key-in-loop-entry.ensures) at (c.cmp.ensures) in
    let more = rw c.if-is_gt.true at c.is_gt.ensures in
    (λ h. absurd (cc), λ h. absurd (in_order-not g.T.SimpleOrdItem.key_of g.T.Key.Ord.cmp _ _ _ _ is (sym more) (rw met at (order.0 h))))

pub loop-entry-preserved : goal.loop-entry-preserved
loop-entry-preserved g c =
    let order = c.loop-entry.invariant in
    let met = c.in-Some-entry.ensures.steps in
    let is = rw (c.key.ensures, c.key-in-loop-entry.ensures) at (c.cmp.ensures) in
    let rest = in_order-step g.T.SimpleOrdItem.key_of g.T.Key.Ord.cmp _ _ _ _ is (sym (rw c.if-is_gt.false at c.is_gt.ensures)) in
    (λ h. rest.0 (rw met at (order.0 h)), λ h. order.1 (rw met (rest.1 h)))
