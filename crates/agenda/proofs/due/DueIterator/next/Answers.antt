use Rattle.std.proofs.Common.{rules, sym, ap, subst, ◌∙◌, ◌<◌}
use Rattle.std.specs.Ordering.{nat_cmp}
use Rattle.agenda.specs.Agenda.{entries_until, shown_job, AreSorted}
use Rattle.agenda.proofs.Reached.{first-late, rest-late}
use Rattle.agenda.proofs.due.DueIterator.next.Goals as goal

pub returns-then-deadline-self-clause-steps : goal.returns-then-deadline-self-clause-steps
returns-then-deadline-self-clause-steps g c =
    let late : c.self.inside.time < c.in-Some.deadline = search rules in
    let sorted = subst (λ es. AreSorted nat_cmp es) c.in-Some.ensures.steps c.self.invariant in (
      sym c.self.view_is ∙ ap (entries_until nat_cmp c.self.inside.time) c.in-Some.ensures.steps ∙ first-late c.self.inside.time (shown_job (c.in-Some.ticket, c.in-Some.deadline, c.in-Some.job)) c.next.new.self sorted late,
      rest-late c.self.inside.time (shown_job (c.in-Some.ticket, c.in-Some.deadline, c.in-Some.job)) c.next.new.self sorted late,
    )
