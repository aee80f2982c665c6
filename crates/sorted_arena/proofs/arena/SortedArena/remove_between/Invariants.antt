use Rattle.std.specs.{Option.option_map, Range.Bound.bound_map}
use Rattle.sorted_arena.specs.Range.{entries_between, entries_outside}
use Rattle.sorted_arena.proofs.Taking.{Taking}
use Rattle.sorted_arena.proofs.arena.SortedArena.remove_between.Given as goal

-- so many were taken
abbrev pub invariant-loop : goal.invariant-loop
invariant-loop g l = Taking g.P.Gen.BasePtrGen.greatest l.fn.self (entries_between g.K.Ord.cmp (bound_map (λ k. k.now) l.fn.from) (bound_map (λ k. k.now) l.fn.until) l.fn.self.entries)
    (entries_outside g.K.Ord.cmp (bound_map (λ k. k.now) l.fn.from) (bound_map (λ k. k.now) l.fn.until) l.fn.self.entries) l.self (option_map g.P.BasePtr.numbers l.next)
    l.counter (λ taken. Unit {0})
