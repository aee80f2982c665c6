use Rattle.std.proofs.Common.{◌≡◌, ◌++◌, map}
use Rattle.ord_machine.specs.Machine.{entry_of}
use Rattle.ord_machine.proofs.steps.entries.Given as goal

-- the entries so far, followed by those that are left
abbrev pub invariant-loop-p : goal.invariant-loop-p
invariant-loop-p g l =
    map (entry_of g.P.BasePtr.numbers) l.pairs.items ++ l.p-iterator ≡ l.arena.list.entries
