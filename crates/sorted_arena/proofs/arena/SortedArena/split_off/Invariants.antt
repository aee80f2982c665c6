use Rattle.std.proofs.Common.{◌≡◌, ◌≤◌, map}
use Rattle.std.specs.{Option.option_map, declared.ops.Bound.TheVariants.Included, declared.ops.Bound.TheVariants.Unbounded}
use Rattle.listing.specs.{Generation.first_generation, PlainArena.capacity_for}
use Rattle.sorted_arena.specs.{Range.entries_between, Range.entries_outside, Sorted.count, Sorted.pair_of}
use Rattle.sorted_arena.proofs.Taking.{Taking}
use Rattle.sorted_arena.proofs.arena.SortedArena.split_off.Given as goal

-- those that were taken are in the new arena, which has room for the others
abbrev pub invariant-loop : goal.invariant-loop
invariant-loop g l = record {
  taking : Taking g.P.Gen.BasePtrGen.greatest l.fn.self (entries_between g.K.Ord.cmp (Included l.fn.from) Unbounded l.fn.self.entries) (entries_outside g.K.Ord.cmp (Included l.fn.from) Unbounded l.fn.self.entries) l.self (option_map g.P.BasePtr.numbers l.next) l.counter
      (λ taken. map pair_of l.moved.entries ≡ map pair_of taken);
  moved : count l.moved ≡ l.counter;
  room : l.count ≤ l.moved.capacity;
  capacity : l.moved.capacity ≡ capacity_for g.P.Inx.BasePtrInx.most 0 l.count;
  generation : l.moved.generation ≡ first_generation g.P.Gen.BasePtrGen.greatest;
}
