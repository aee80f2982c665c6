use Rattle.std.specs.{Option.option_map, Range.Bound.bound_map}
use Rattle.std.specs.BTreeMap.Range.{range_contains}
use Rattle.sorted_arena.specs.Sorted.{key_of, IsSound}
use Rattle.sorted_arena.proofs.Writing.{Writing}
use Rattle.sorted_arena.proofs.arena.SortedArena.write_between.Given as goal

-- the first so many entries of the range were written
abbrev pub invariant-loop : goal.invariant-loop
invariant-loop g l = record {
  callable : goal.F-IsAlwaysCallable g l.f;
  sound : IsSound g.K.Ord.cmp g.P.Inx.BasePtrInx.most l.self;
  writing : Writing g.F.FnMut (λ e. range_contains g.K.Ord.cmp (bound_map (λ k. k.now) l.fn.from) (bound_map (λ k. k.now) l.fn.until) (key_of e)) l.fn.self l.fn.f l.count l.self
      (option_map g.P.BasePtr.numbers l.next) l.counter l.f;
}
