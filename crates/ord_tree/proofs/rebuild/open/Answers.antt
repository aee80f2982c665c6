use Rattle.std.proofs.Common.{arith}
use Rattle.ord_tree.proofs.Rebuilding.{opened-more, IsWaiting-opened, IsWaiting-few}
use Rattle.ord_tree.proofs.rebuild.open.Goals as goal

pub put-requires : goal.put-requires
put-requires c =
    let r = c.requires in
    record { not_full = (opened-more r.4 (c.loop-rest.invariant r.0 r.1 r.2 r.3 r.4 r.5).unopened c.loop-rest-test.true).0 }

pub loop-rest-preserved : goal.loop-rest-preserved
loop-rest-preserved c = λ at s top todo plan opening.
    rw c.put.ensures (opened-more plan (c.loop-rest.invariant at s top todo plan opening).unopened c.loop-rest-test.true).1

pub returns-clause-opened : goal.returns-clause-opened
returns-clause-opened c = λ at s top todo plan opening.
    IsWaiting-opened plan (c.loop-rest.invariant at s top todo plan opening) (omega (arith, c.loop-rest-test.false))

pub returns-clause-few : goal.returns-clause-few
returns-clause-few c = λ at s top todo plan opening.
    IsWaiting-few plan (IsWaiting-opened plan (c.loop-rest.invariant at s top todo plan opening) (omega (arith, c.loop-rest-test.false)))
