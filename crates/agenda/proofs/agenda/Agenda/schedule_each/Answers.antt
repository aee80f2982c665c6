use Rattle.std.proofs.Common.{ℕ, ◌+◌, ◌≤◌, ◌∷◌, [], ◌++◌, length, length-append, append_assoc, sym, ap, ◌∙◌, arith}
use Rattle.std.proofs.lemmas.Grind.{common_steps}
use Rattle.std.specs.Vec.Iter.{into_iter_items}
use Rattle.agenda.proofs.{Given.pushed, Scheduling.schedules-none, Scheduling.schedules-more}
use Rattle.agenda.proofs.agenda.Agenda.schedule_each.Goals as goal

pub loop-deadline-init : goal.loop-deadline-init
loop-deadline-init g c = record {
  cut = grind (arith, common_steps);
  left = grind (arith, common_steps);
  schedules = schedules-none c.args.self.now c.args.tickets.now.items;
  space = grind (arith, common_steps);
}

pub loop-deadline-preserved : goal.loop-deadline-preserved
loop-deadline-preserved g c =
    let now = c.loop-deadline.invariant in
    let x : ℕ × g.row.J.Denot = (c.in-Some.deadline, c.in-Some.job) in
    let cut = now.cut ∙ ap (λ xs. c.loop-deadline.yielded ++ xs) c.in-Some.ensures.steps.0 in
    let more : length c.loop-deadline.yielded + 1 ≤ length c.args.jobs.items = omega (arith, ap length cut, length-append c.loop-deadline.yielded (x ∷ into_iter_items c.next.new.self)) in
    let put = pushed c.push.result c.loop-deadline.tickets.items c.push.new.self.items c.in-Ok.ticket c.push.ensures.items (c.push.ensures.succeeds (omega (arith, now.space, more))) in
    record {
      cut = cut ∙ sym (append_assoc c.loop-deadline.yielded (x ∷ []) (into_iter_items c.next.new.self));
      left = grind (arith, common_steps);
      schedules = schedules-more c.args.self.now c.loop-deadline.self c.schedule.new.self c.loop-deadline.yielded c.args.tickets.now.items c.loop-deadline.tickets.items c.push.new.self.items c.in-Ok.ticket x now.schedules
          c.in-Ok.ensures.free c.in-Ok.ensures.ok (omega (arith, now.schedules.count, now.schedules.capacity, c.requires.room, more)) put;
      space = omega (arith, now.space, c.push.ensures.upper_bound, c.push.ensures.capacity, length-append c.loop-deadline.yielded (x ∷ []));
    }
