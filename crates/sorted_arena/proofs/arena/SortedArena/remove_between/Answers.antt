use Rattle.std.proofs.Common.{arith}
use Rattle.std.specs.Range.Bound.{bound_map}
use Rattle.sorted_arena.specs.Sorted.{with_passing}
use Rattle.sorted_arena.proofs.{Outside.range-part, Taking.taking-none, Taking.cut-next, Taking.taking-more, Taking.taking-done}
use Rattle.sorted_arena.proofs.arena.SortedArena.remove_between.Goals as goal

pub loop-init : goal.loop-init
loop-init g c =
    taking-none g.P.Gen.BasePtrGen.greatest c.args.self.now _ _ _ _
    (range-part g.K.Ord.cmp g.met.K.Ord.total (bound_map (λ k. k.now) c.args.from) (bound_map (λ k. k.now) c.args.until) c.args.self.now.entries c.run_between-first.ensures.sound.sorted) c.run_between-first.ensures.first tt

pub take-next-requires : goal.take-next-requires
take-next-requires g c = cut-next _ _ _ _ _ _ _ _ c.loop.invariant (omega (arith, c.loop-test.true, c.run_between-first.ensures.count))

pub loop-preserved : goal.loop-preserved
loop-preserved g c =
    taking-more _ _ _ _ _ _ _ _ c.loop.invariant (omega (arith, c.loop-test.true, c.run_between-first.ensures.count)) c.take-next.result.0 c.take-next.new.self _ _ c.take-next.ensures.takes (λ taken later e cut at is was. tt)

pub returns-clause-after : goal.returns-clause-after
unfolding with_passing
returns-clause-after g c =
    (taking-done _ _ _ _ _ _ _ _ c.loop.invariant (omega (arith, c.run_between-first.ensures.count, c.loop.auto.counter-end, c.loop-test.false))).0

pub returns-clause-count : goal.returns-clause-count
returns-clause-count g c =
    let done = taking-done _ _ _ _ _ _ _ _ c.loop.invariant (omega (arith, c.run_between-first.ensures.count, c.loop.auto.counter-end, c.loop-test.false)) in
    omega (arith, done.1, c.loop.auto.counter-end, c.loop-test.false)
