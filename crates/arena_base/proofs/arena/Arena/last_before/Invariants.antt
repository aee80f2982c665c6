use Rattle.arena_base.proofs.Words.{◌≡◌, falling_from}
use Rattle.arena_base.proofs.arena.Arena.last_before.Given as goal

abbrev pub invariant-loop-position : goal.invariant-loop-position
invariant-loop-position g l = falling_from l.self l.position ≡ falling_from l.self l.fn.«end»
