use Rattle.std.proofs.Common.{◌+◌, ◌≤◌, vec_len}
use Rattle.std.specs.{Option.option_map, Range.Bound.bound_map, Vec.vec_capacity}
use Rattle.sorted_arena.specs.Range.{entries_between, entries_outside}
use Rattle.sorted_arena.proofs.{Taking.Taking, Entries.HasBehind}
use Rattle.sorted_arena.proofs.arena.SortedArena.drain_entries_between.Given as goal

-- those that were taken stand at the end of the vector, which has room for the others
abbrev pub invariant-loop : goal.invariant-loop
invariant-loop g l = record {
  taking : Taking g.P.Gen.BasePtrGen.greatest l.fn.self (entries_between g.K.Ord.cmp (bound_map (λ k. k.now) l.fn.from) (bound_map (λ k. k.now) l.fn.until) l.fn.self.entries)
      (entries_outside g.K.Ord.cmp (bound_map (λ k. k.now) l.fn.from) (bound_map (λ k. k.now) l.fn.until) l.fn.self.entries) l.self (option_map g.P.BasePtr.numbers l.next)
      l.counter (HasBehind g.P.BasePtr.numbers l.fn.drained.items l.drained.items);
  room : vec_len l.drained + l.count ≤ vec_capacity l.drained + l.counter;
}
