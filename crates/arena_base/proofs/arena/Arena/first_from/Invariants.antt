use Rattle.arena_base.proofs.Words.{◌≡◌, ◌+◌, entries_rising, rising_from}
use Rattle.arena_base.proofs.arena.Arena.first_from.Given as goal

abbrev pub invariant-loop-position : goal.invariant-loop-position
invariant-loop-position g l = record {
  pointers : rising_from l.self (l.position + 1) ≡ rising_from l.self (l.fn.from + 1);
  entries : entries_rising l.self (l.position + 1) ≡ entries_rising l.self (l.fn.from + 1);
}
