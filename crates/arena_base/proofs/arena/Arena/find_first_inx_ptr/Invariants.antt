use Rattle.arena_base.proofs.Words.{◌≡◌, ℕ, ◌≤◌, None, slot}
use Rattle.arena_base.proofs.arena.Arena.find_first_inx_ptr.Given as goal

abbrev pub invariant-loop-position : goal.invariant-loop-position
invariant-loop-position g l = (k : ℕ) → k ≤ l.position → slot l.self k ≡ None
