use Rattle.std.proofs.Common.{◌∙◌, sym}
use Rattle.sorted_arena.proofs.{Cutting.gt_is, Extending.first-out}
use Rattle.sorted_arena.proofs.arena.extend.first_unsorted.Goals as goal

pub returns-then-is_gt-clause-unsorted : goal.returns-then-is_gt-clause-unsorted
returns-then-is_gt-clause-unsorted g c =
    first-out g.K.Ord.cmp g.met.K.Ord.total c.args.pairs.now c.loop-i.i c.loop-i.invariant c.loop-i.auto.i c.loop-i-test.true c.index-pairs-i.result c.index-pairs-i-in-loop-i.result
    (sym c.cmp.ensures ∙ gt_is c.cmp.result (sym c.is_gt.ensures ∙ c.if-is_gt.true))
