use Rattle.std.proofs.Common.{◌∙◌, arith}
use Rattle.ord_tree.proofs.rebuild.close.Goals as goal

pub loop-middle-preserved : goal.loop-middle-preserved
loop-middle-preserved g c = record {
  plan = λ s top plan. (c.in-Some.ensures.step top).plan s (c.loop-middle.invariant.plan s top plan);
  finished = λ s top todo plan finished. (c.in-Some.ensures.step top).after s todo (c.loop-middle.invariant.plan s top plan) (c.loop-middle.invariant.finished s top todo plan finished);
  few = omega (arith, c.in-Some.ensures.fewer, c.loop-middle.invariant.few);
  kept = (c.in-Some.ensures.step 0).kept ∙ c.loop-middle.invariant.kept;
}

pub returns-clause-step : goal.returns-clause-step
returns-clause-step g c = λ top.
    let last = c.in_default.ensures.step top in
    record {
      plan = λ s plan. last.plan s (c.loop-middle.invariant.plan s top plan);
      after = λ s todo plan finished. last.after s todo (c.loop-middle.invariant.plan s top plan) (c.loop-middle.invariant.finished s top todo plan finished);
      kept = last.kept ∙ c.loop-middle.invariant.kept;
    }
