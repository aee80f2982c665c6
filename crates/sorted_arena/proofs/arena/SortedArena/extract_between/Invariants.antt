use Rattle.std.proofs.Common.{◌+◌, ◌≤◌, vec_len}
use Rattle.std.specs.{Option.option_map, Range.Bound.bound_map, Vec.vec_capacity}
use Rattle.sorted_arena.specs.{Answer.AnswersForEntry, Range.entries_between}
use Rattle.sorted_arena.proofs.Extracting.{Extracts}
use Rattle.sorted_arena.proofs.arena.SortedArena.extract_between.Given as goal

-- some of those that were asked for stand at the end of the vector, which has room for the others
abbrev pub invariant-loop : goal.invariant-loop
invariant-loop g l = record {
  callable : goal.F-IsAlwaysCallable g l.f;
  extracts : Extracts g.P.BasePtr.numbers (AnswersForEntry g.P.BasePtr.numbers g.F.FnMut) g.P.Gen.BasePtrGen.greatest l.fn.self l.fn.f
      (entries_between g.K.Ord.cmp (bound_map (λ k. k.now) l.fn.from) (bound_map (λ k. k.now) l.fn.until) l.fn.self.entries) l.fn.extracted.items
      l.self (option_map g.P.BasePtr.numbers l.next) l.f l.extracted.items l.counter;
  room : vec_len l.extracted + l.count ≤ vec_capacity l.extracted + l.counter;
}
