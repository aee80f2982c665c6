use Rattle.std.proofs.Common.{arith}
use Rattle.std.specs.{Option.option_map, Range.Bound.bound_map}
use Rattle.sorted_arena.proofs.Writing.{writing-range, cut-next, writing-more, writing-done}
use Rattle.sorted_arena.proofs.arena.SortedArena.write_between.Goals as goal

pub loop-init : goal.loop-init
loop-init g c = record {
  callable = c.requires;
  sound = c.run_between-first.ensures.sound;
  writing = writing-range g.F.FnMut g.K.Ord.cmp g.met.K.Ord.total (bound_map (λ k. k.now) c.args.from) (bound_map (λ k. k.now) c.args.until) c.args.self.now c.run_between-first.ensures.sound.sorted c.args.f
      c.run_between-first.result.1 c.run_between-first.ensures.count (option_map g.P.BasePtr.numbers c.run_between-first.result.0) c.run_between-first.ensures.first;
}

pub write_entry-next-requires-clause-named : goal.write_entry-next-requires-clause-named
write_entry-next-requires-clause-named g c = cut-next _ _ _ _ _ _ _ _ _ c.loop.invariant.writing c.loop-test.true

pub loop-preserved : goal.loop-preserved
loop-preserved g c = record {
  callable = c.write_entry-next.ensures.still_callable;
  sound = c.write_entry-next.ensures.sound;
  writing = writing-more _ _ _ _ _ _ _ _ _ c.loop.invariant.writing c.loop-test.true c.write_entry-next.new.self _ _ c.write_entry-next.ensures.writes;
}

pub returns-clause-written : goal.returns-clause-written
returns-clause-written g c = (writing-done _ _ _ _ _ _ _ _ _ c.loop.invariant.writing (omega (arith, c.loop.auto.counter-end, c.loop-test.false))).0

pub returns-clause-after : goal.returns-clause-after
returns-clause-after g c = (writing-done _ _ _ _ _ _ _ _ _ c.loop.invariant.writing (omega (arith, c.loop.auto.counter-end, c.loop-test.false))).1
