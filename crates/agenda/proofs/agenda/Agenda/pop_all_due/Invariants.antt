use Rattle.std.proofs.Common.{ℕ, ◌+◌, ◌≤◌, length, vec_len}
use Rattle.std.specs.{Ordering.nat_cmp, Vec.vec_capacity}
use Rattle.agenda.specs.Agenda.{count, entries_until}
use Rattle.agenda.proofs.Taking.{Takes}
use Rattle.agenda.proofs.agenda.Agenda.pop_all_due.Given as goal

-- those that were taken stand at the end of the vector, which has room for the others
abbrev pub invariant-loop-entry : goal.invariant-loop-entry
invariant-loop-entry g l = record {
  many : ℕ;
  takes : Takes l.fn.now l.fn.self l.fn.popped.items l.self l.popped.items many;
  room : vec_len l.popped + length (entries_until nat_cmp l.fn.now l.fn.self.entries) ≤ vec_capacity l.popped + many;
}

abbrev pub decreases-loop-entry : goal.decreases-loop-entry
decreases-loop-entry g l = count l.self
