use Rattle.std.specs.Option.{option_map}
use Rattle.sorted_arena.specs.{Answer.AnswersForEntry, Sorted.IsSound}
use Rattle.sorted_arena.proofs.Retaining.{Retains, left-from}
use Rattle.sorted_arena.proofs.arena.SortedArena.retain_entries.Given as goal

-- those that were asked for are kept or gone, and the others are to come
abbrev pub invariant-loop-next : goal.invariant-loop-next
invariant-loop-next g l = record {
  callable : goal.F-IsAlwaysCallable g l.f;
  sound : IsSound g.K.Ord.cmp g.P.Inx.BasePtrInx.most l.self;
  retains : Retains (AnswersForEntry g.P.BasePtr.numbers g.F.FnMut) g.P.Gen.BasePtrGen.greatest l.fn.self l.fn.f l.self (option_map g.P.BasePtr.numbers l.next) l.f;
}

abbrev pub decreases-loop-next : goal.decreases-loop-next
decreases-loop-next g l = left-from l.self.entries (option_map g.P.BasePtr.numbers l.next)
