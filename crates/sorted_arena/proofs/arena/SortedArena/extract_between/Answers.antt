use Rattle.std.proofs.Common.{arith, rules}
use Rattle.std.specs.Range.Bound.{bound_map}
use Rattle.sorted_arena.specs.Sorted.{with_passing}
use Rattle.sorted_arena.proofs.{Outside.range-part, Extracting.extracts-none, Extracting.extracts-cut, Extracting.extracts-more, Extracting.extracts-done}
use Rattle.sorted_arena.proofs.Entries.{behind-none, behind-held, behind-entries}
use Rattle.sorted_arena.proofs.arena.SortedArena.extract_between.Goals as goal

pub loop-init : goal.loop-init
loop-init g c = record {
  callable = c.requires;
  extracts = extracts-none _ _ _ _ _ _ _ _ _ _
      (range-part g.K.Ord.cmp g.met.K.Ord.total (bound_map (λ k. k.now) c.args.from) (bound_map (λ k. k.now) c.args.until) c.args.self.now.entries c.run_between-first.ensures.sound.sorted)
      c.run_between-first.ensures.first (behind-none g.P.BasePtr.numbers c.args.extracted.now.items _ c.reserve.ensures.items);
  room = omega (arith, c.in_ok-reserve.ensures.ok);
}

pub extract_entry-next-requires-clause-named : goal.extract_entry-next-requires-clause-named
extract_entry-next-requires-clause-named g c =
    extracts-cut _ _ _ _ _ _ _ c.run_between-first.ensures.sound.distinct _ _ _ _ _ c.loop.invariant.extracts (omega (arith, c.loop-test.true, c.run_between-first.ensures.count))

pub loop-preserved : goal.loop-preserved
loop-preserved g c = record {
  callable = c.extract_entry-next.ensures.still_callable;
  extracts = extracts-more _ _ _ _ _ _ _ c.run_between-first.ensures.sound.distinct _ _ _ _ _ c.loop.invariant.extracts (omega (arith, c.loop-test.true, c.run_between-first.ensures.count)) _ _ _ _
      c.extract_entry-next.ensures.extracts;
  room = omega (arith, c.loop.invariant.room, c.extract_entry-next.ensures.more, c.extract_entry-next.ensures.capacity);
}

pub returns-clause-extracts : goal.returns-clause-extracts
unfolding with_passing
returns-clause-extracts g c =
    let done = extracts-done _ _ _ _ _ _ _ c.run_between-first.ensures.sound.distinct _ _ _ _ _ c.loop.invariant.extracts
    (omega (arith, c.run_between-first.ensures.count, c.loop.auto.counter-end, c.loop-test.false)) in
    let are = behind-entries g.P.BasePtr.numbers _ _ _ done.2 in
    record {
      held = behind-held g.P.BasePtr.numbers _ _ _ done.2;
      extracted = rw are done.0;
      after = rw are done.1;
      room = search rules;
      kept = search rules;
      err = search rules;
    }
