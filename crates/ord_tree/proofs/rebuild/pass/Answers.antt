use Rattle.std.proofs.Common.{◌∙◌, arith, inl}
use Rattle.ord_tree.proofs.Rebuilding.{IsFinished-met, IsWaiting-few}
use Rattle.ord_tree.proofs.rebuild.pass.Goals as goal

pub close-requires : goal.close-requires
close-requires g c =
    let r = c.requires in
    let plan = c.meet-met.ensures.step.plan r.0 r.2 in
    (r.0, c.args.top, r.1, plan, IsFinished-met plan c.meet-met.result (c.meet-met.ensures.step.after r.0 r.1 r.2 r.3) c.meet-met.ensures.middle c.meet-met.ensures.bare c.if-rest-eq0.true)

pub returns-then-rest-eq0-clause-step : goal.returns-then-rest-eq0-clause-step
returns-then-rest-eq0-clause-step g c = record {
  plan = λ s plan. (c.close.ensures.step c.args.top).plan s (c.meet-met.ensures.step.plan s plan);
  after = λ s todo plan ready.
      let met = c.meet-met.ensures.step.plan s plan in
      (c.close.ensures.step c.args.top).after s todo met (IsFinished-met met c.meet-met.result (c.meet-met.ensures.step.after s todo plan ready) c.meet-met.ensures.middle c.meet-met.ensures.bare c.if-rest-eq0.true);
  kept = (c.close.ensures.step 0).kept ∙ c.meet-met.ensures.step.kept;
}

pub open-requires : goal.open-requires
open-requires g c =
    let r = c.requires in
    (g.N.Nodes.at c.meet-met.new.nodes, r.0, c.args.top, r.1, c.meet-met.ensures.step.plan r.0 r.2, record { unopened = rw c.put.ensures (c.meet-met.ensures.step.after r.0 r.1 r.2 r.3); facing = inl (omega (arith, c.if-rest-eq0.false)) })

pub returns-clause-step : goal.returns-clause-step
returns-clause-step g c = record {
  plan = c.meet-met.ensures.step.plan;
  after = λ s todo plan ready.
      c.open.ensures.opened (g.N.Nodes.at c.meet-met.new.nodes) s c.args.top todo (c.meet-met.ensures.step.plan s plan) (record { unopened = rw c.put.ensures (c.meet-met.ensures.step.after s todo plan ready); facing = inl (omega (arith, c.if-rest-eq0.false)) });
  kept = c.meet-met.ensures.step.kept;
}

pub returns-clause-few : goal.returns-clause-few
returns-clause-few g c = λ s todo plan ready.
    c.open.ensures.few (g.N.Nodes.at c.meet-met.new.nodes) s c.args.top todo (c.meet-met.ensures.step.plan s plan) (record { unopened = rw c.put.ensures (c.meet-met.ensures.step.after s todo plan ready); facing = inl (omega (arith, c.if-rest-eq0.false)) })

pub returns-then-rest-eq0-clause-few : goal.returns-then-rest-eq0-clause-few
returns-then-rest-eq0-clause-few g c = λ s todo plan ready. λ d digits.
    omega (arith, IsWaiting-few plan ready d digits, c.meet-met.ensures.fewer, c.close.ensures.few)
