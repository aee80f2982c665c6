use Rattle.std.proofs.Common.{◌≡◌, ◌+◌, ◌≤◌, ◌++◌, length, vec_len}
use Rattle.std.specs.{Vec.vec_capacity, Vec.Iter.into_iter_items, Vec.Iter.into_iter_len}
use Rattle.agenda.specs.Scheduling.{SchedulesEach}
use Rattle.agenda.proofs.agenda.Agenda.schedule_each.Given as goal

-- the jobs so far were scheduled, and there is room for the others
abbrev pub invariant-loop-deadline : goal.invariant-loop-deadline
invariant-loop-deadline g l = record {
  cut : l.fn.jobs.items ≡ l.yielded ++ into_iter_items l.deadline-iterator;
  left : into_iter_len l.deadline-iterator ≡ length (into_iter_items l.deadline-iterator);
  schedules : SchedulesEach l.fn.self l.yielded l.fn.tickets.items l.tickets.items l.self;
  space : vec_len l.tickets + length l.fn.jobs.items ≤ vec_capacity l.tickets + length l.yielded;
}
