use Rattle.std.proofs.Common.{◌∙◌, sym, arith, rules}
use Rattle.std.specs.Range.Bound.{bound_map}
use Rattle.sorted_arena.specs.Sorted.{with_passing}
use Rattle.sorted_arena.proofs.{Cutting.some-same, Outside.range-part, Taking.taking-none, Taking.cut-next, Taking.taking-more, Taking.taking-done}
use Rattle.sorted_arena.proofs.Entries.{pushed, given-is, behind-none, behind-more, behind-held, behind-entries}
use Rattle.sorted_arena.proofs.arena.SortedArena.drain_entries_between.Goals as goal

pub loop-init : goal.loop-init
loop-init g c = record {
  taking = taking-none g.P.Gen.BasePtrGen.greatest c.args.self.now _ _ _ _
      (range-part g.K.Ord.cmp g.met.K.Ord.total (bound_map (λ k. k.now) c.args.from) (bound_map (λ k. k.now) c.args.until) c.args.self.now.entries c.run_between-first.ensures.sound.sorted)
      c.run_between-first.ensures.first (behind-none g.P.BasePtr.numbers c.args.drained.now.items _ c.reserve.ensures.items);
  room = omega (arith, c.in_ok-reserve.ensures.ok);
}

pub take_entry-entry-requires : goal.take_entry-entry-requires
take_entry-entry-requires g c = cut-next _ _ _ _ _ _ _ _ c.loop.invariant.taking (omega (arith, c.loop-test.true, c.run_between-first.ensures.count))

pub loop-preserved : goal.loop-preserved
loop-preserved g c =
    let x = c.take_entry-entry.result.0 in
    let put = pushed c.push.result c.loop.drained.items c.push.new.self.items x c.push.ensures.items (c.push.ensures.succeeds (omega (arith, c.loop.invariant.room, c.loop-test.true))) in
    record {
      taking = taking-more _ _ _ _ _ _ _ _ c.loop.invariant.taking (omega (arith, c.loop-test.true, c.run_between-first.ensures.count)) (x.1, x.2) c.take_entry-entry.new.self _ _ c.take_entry-entry.ensures.takes
          (λ taken later e cut at is was. behind-more g.P.BasePtr.numbers c.args.drained.now.items c.loop.drained.items c.push.new.self.items taken x e was put
          (given-is g.P.BasePtr.numbers x e (some-same (sym c.take_entry-entry.ensures.named ∙ at)) is));
      room = omega (arith, c.loop.invariant.room, c.push.ensures.upper_bound, c.push.ensures.capacity);
    }

pub returns-clause-drains : goal.returns-clause-drains
unfolding with_passing
returns-clause-drains g c =
    let done = taking-done _ _ _ _ _ _ _ _ c.loop.invariant.taking (omega (arith, c.run_between-first.ensures.count, c.loop.auto.counter-end, c.loop-test.false)) in
    record {
      held = behind-held g.P.BasePtr.numbers _ _ _ done.2;
      drained = behind-entries g.P.BasePtr.numbers _ _ _ done.2;
      after = done.0;
      room = search rules;
      kept = search rules;
      err = search rules;
    }
