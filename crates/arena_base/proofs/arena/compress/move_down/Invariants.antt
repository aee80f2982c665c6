use Rattle.arena_base.proofs.{Compressing.CompressedBelow}
use Rattle.arena_base.proofs.arena.compress.move_down.Given as goal

abbrev pub invariant-loop-from : goal.invariant-loop-from
invariant-loop-from g l =
    g.M.MapEntry.callable l.map
    × CompressedBelow g.P.BasePtr.numbers g.P.Gen.BasePtrGen.number g.M.MapEntry.step l.fn.generation l.fn.map l.fn.slots.items l.map l.slots.items l.from l.to
