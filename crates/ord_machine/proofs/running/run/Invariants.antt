use Rattle.std.proofs.Common.{◌≡◌, ◌+◌, ◌≤◌, ◌++◌, length, vec_len, vec_capacity}
use Rattle.std.specs.Vec.Iter.{into_iter_items, into_iter_len}
use Rattle.triple_ord.specs.ClosureSearch.{Asks}
use Rattle.ord_machine.specs.Machine.{calls_by, reading_by, RunsBetween}
use Rattle.ord_machine.proofs.running.run.Given as goal

-- a run of the commands so far, and room for the replies to the others
abbrev pub invariant-loop-command : goal.invariant-loop-command
invariant-loop-command g l = let reading = reading_by g.T.SimpleOrdItem.key_of g.T.Key.Ord.cmp g.P.Inx.BasePtrInx.most g.P.Gen.BasePtrGen.greatest
    g.P.BasePtr.numbers g.P.Inx.BasePtrInx.number g.P.Gen.BasePtrGen.number in record {
      cut : l.yielded ++ into_iter_items l.command-iterator ≡ l.fn.commands.items;
      callable : goal.F-IsAlwaysCallable g l.closure;
      runs : RunsBetween reading (calls_by (Asks g.P.BasePtr.numbers (goal.F-step g)) g.T.Clone.is_infallible) l.fn.arena l.fn.closure l.yielded l.replies.items l.arena l.closure;
      count : into_iter_len l.command-iterator ≡ length (into_iter_items l.command-iterator);
      room : vec_len l.replies + into_iter_len l.command-iterator ≤ vec_capacity l.replies;
    }
