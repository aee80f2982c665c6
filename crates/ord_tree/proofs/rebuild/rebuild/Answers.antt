use Rattle.std.proofs.Common.{[], refl, sym, ◌∙◌, ap, option_map, arith}
use Rattle.ord_tree.specs.Node.{indexes}
use Rattle.ord_tree.proofs.Rebuilding.{planned, IsOpening-start, target_of, target-there, target-some, IsPassing-next, Holds-passed}
use Rattle.ord_tree.proofs.LeafBranches.{is_some-mapped}
use Rattle.ord_tree.proofs.rebuild.rebuild.Goals as goal

pub open-requires : goal.open-requires
open-requires g c =
    let at = g.N.Nodes.at c.args.nodes.now in
    let order = indexes (g.N.Nodes.list c.args.nodes.now).entries in
    let s = planned at order c.args.len c.top_rank-top.result c.requires.len c.ranges.len.fits c.requires.once c.requires.there c.top_rank-top.ensures in
    (at, s.0, c.top_rank-top.result, order, s.3, IsOpening-start s.1 c.args.len c.requires.len c.new-stack.result.items c.new-stack.ensures)

pub loop-init : goal.loop-init
loop-init g c =
    let at = g.N.Nodes.at c.args.nodes.now in
    let order = indexes (g.N.Nodes.list c.args.nodes.now).entries in
    record {
      plan = λ s plan. plan;
      passing = λ s walked plan. record {
        met = [];
        todo = order;
        split = refl;
        count = refl;
        target_is = c.first-target.ensures;
        ready = c.open.ensures.opened at s c.top_rank-top.result order plan (IsOpening-start walked c.args.len c.requires.len c.new-stack.result.items c.new-stack.ensures);
      };
      kept = refl;
    }

pub unwrap-x-requires : goal.unwrap-x-requires
unwrap-x-requires g c =
    let s = planned (g.N.Nodes.at c.args.nodes.now) _ c.args.len c.top_rank-top.result c.requires.len c.ranges.len.fits c.requires.once c.requires.there c.top_rank-top.ensures in
    sym (is_some-mapped g.N.Nodes.number c.loop.target) ∙ target-some (c.loop.invariant.passing s.0 s.1 s.3) (omega (arith, c.loop-test.true, c.requires.len))

pub next-target-requires : goal.next-target-requires
next-target-requires g c =
    let number = g.N.Nodes.number in
    let s = planned (g.N.Nodes.at c.args.nodes.now) _ c.args.len c.top_rank-top.result c.requires.len c.ranges.len.fits c.requires.once c.requires.there c.top_rank-top.ensures in
    let passing = c.loop.invariant.passing s.0 s.1 s.3 in
    target-there passing (c.loop.invariant.plan s.0 s.3) s.1 (target_of passing (number c.unwrap-x.result) (ap (option_map number) c.unwrap-x.ensures))

pub pass-finished-requires : goal.pass-finished-requires
pass-finished-requires g c =
    let number = g.N.Nodes.number in
    let s = planned (g.N.Nodes.at c.args.nodes.now) _ c.args.len c.top_rank-top.result c.requires.len c.ranges.len.fits c.requires.once c.requires.there c.top_rank-top.ensures in
    let is = target_of (c.loop.invariant.passing s.0 s.1 s.3) (number c.unwrap-x.result) (ap (option_map number) c.unwrap-x.ensures) in
    (s.0, is.rest, c.loop.invariant.plan s.0 s.3, is.ready)

pub loop-preserved : goal.loop-preserved
loop-preserved g c =
    let number = g.N.Nodes.number in
    record {
      plan = λ s plan. c.pass-finished.ensures.step.plan s (c.loop.invariant.plan s plan);
      passing = λ s walked plan.
          let passing = c.loop.invariant.passing s walked plan in
          let is = target_of passing (number c.unwrap-x.result) (ap (option_map number) c.unwrap-x.ensures) in
          IsPassing-next passing is c.requires.once (rw c.loop.invariant.kept at c.next-target.ensures) (c.pass-finished.ensures.step.after s is.rest (c.loop.invariant.plan s plan) is.ready);
      kept = c.pass-finished.ensures.step.kept ∙ c.loop.invariant.kept;
    }

pub returns-clause-rebuilt : goal.returns-clause-rebuilt
returns-clause-rebuilt g c =
    let s = planned (g.N.Nodes.at c.args.nodes.now) _ c.args.len c.top_rank-top.result c.requires.len c.ranges.len.fits c.requires.once c.requires.there c.top_rank-top.ensures in
    (s.0, s.1, s.2, Holds-passed (c.loop.invariant.passing s.0 s.1 s.3) (omega (arith, c.loop-test.false, c.requires.len)))
