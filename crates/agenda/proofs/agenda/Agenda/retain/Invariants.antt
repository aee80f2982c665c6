use Rattle.std.specs.Ordering.{nat_cmp}
use Rattle.agenda.specs.{Agenda.IsSound, Agenda.most_entries, Agenda.greatest_generation, Answer.AnswersForJob}
use Rattle.agenda.proofs.Retaining.{Retains, left-from}
use Rattle.agenda.proofs.agenda.Agenda.retain.Given as goal

-- those that were asked for are kept or gone, and the others are to come
abbrev pub invariant-loop-next : goal.invariant-loop-next
invariant-loop-next g l = record {
  callable : goal.F-IsAlwaysCallable g l.f;
  sound : IsSound nat_cmp most_entries l.self;
  retains : Retains (AnswersForJob g.F.FnMut) greatest_generation l.fn.self l.fn.f l.self l.next l.f;
}

abbrev pub decreases-loop-next : goal.decreases-loop-next
decreases-loop-next g l = left-from l.self.entries l.next
