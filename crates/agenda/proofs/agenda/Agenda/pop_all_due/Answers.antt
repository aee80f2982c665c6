use Rattle.std.proofs.Common.{◌≡◌, ◌+◌, None, refl, ◌∙◌, ap, sym, subst, arith}
use Rattle.std.specs.{Option.option_map}
use Rattle.agenda.specs.{Agenda.Agenda, Agenda.given_job, Agenda.first_due, Tickets.IsStep}
use Rattle.agenda.proofs.Stepping.{stays, thins}
use Rattle.agenda.proofs.Taking.{takes-none, takes-more, takes-fewer, takes-behind, takes-after, takes-part, takes-rest}
use Rattle.agenda.proofs.Given.{behind-shown, pushed}
use Rattle.agenda.proofs.agenda.Agenda.pop_all_due.Goals as goal

pub returns-in_err-reserve-clause-step : goal.returns-in_err-reserve-clause-step
returns-in_err-reserve-clause-step g c = stays _ _ refl

pub loop-entry-init : goal.loop-entry-init
loop-entry-init g c = record {
  many = 0;
  takes = takes-none c.args.now c.args.self.now c.args.popped.now.items c.reserve.new.self.items c.reserve.ensures.items;
  room = omega (arith, c.in_ok-reserve.ensures.ok, c.count_due-due.ensures);
}

pub loop-entry-preserved-in-Some : goal.loop-entry-preserved-in-Some
loop-entry-preserved-in-Some g c =
    let now = c.loop-entry.invariant in
    let fewer = takes-fewer c.args.now c.args.self.now c.args.popped.now.items c.loop-entry.self c.loop-entry.popped.items now.many now.takes c.in-Some.entry c.in-Some.ensures.first c.in-Some.ensures.due in
    let put = pushed c.push.result c.loop-entry.popped.items c.push.new.self.items c.in-Some.entry c.push.ensures.items (c.push.ensures.succeeds (omega (arith, now.room, fewer))) in
    record {
      many = now.many + 1;
      takes = takes-more c.args.now c.args.self.now c.args.popped.now.items c.loop-entry.self c.loop-entry.popped.items now.many now.takes c.in-Some.entry c.in-Some.ensures.first c.in-Some.ensures.due c.pop_due_entry.new.self c.push.new.self.items c.in-Some.ensures.gone put;
      room = omega (arith, now.room, c.push.ensures.upper_bound, c.push.ensures.capacity);
    }

pub loop-entry-preserved : goal.loop-entry-preserved
loop-entry-preserved g c =
    let now = c.loop-entry.invariant in
    let fewer = takes-fewer c.args.now c.args.self.now c.args.popped.now.items c.loop-entry.self c.loop-entry.popped.items now.many now.takes c.in-Some.entry c.in-Some.ensures.first c.in-Some.ensures.due in
    let put = pushed c.push.result c.loop-entry.popped.items c.push.new.self.items c.in-Some.entry c.push.ensures.items (c.push.ensures.succeeds (omega (arith, now.room, fewer))) in
    record {
      many = now.many + 1;
      takes = takes-more c.args.now c.args.self.now c.args.popped.now.items c.loop-entry.self c.loop-entry.popped.items now.many now.takes c.in-Some.entry c.in-Some.ensures.first c.in-Some.ensures.due c.pop_due_entry.new.self c.push.new.self.items c.in-Some.ensures.gone put;
      room = omega (arith, now.room, c.push.ensures.upper_bound, c.push.ensures.capacity);
    }

-- no job is due in the end
none_due : (g : _) (c : goal.In_default g) → first_due c.args.now c.loop-entry.self.entries ≡ None
none_due g c = sym c.pop_due_entry.ensures.value ∙ ap (option_map _) c.in_default.is

pub returns-clause-popped : goal.returns-clause-popped
returns-clause-popped g c =
    behind-shown given_job c.args.popped.now.items c.loop-entry.popped.items _
    (takes-behind c.args.now c.args.self.now c.args.popped.now.items c.loop-entry.self c.loop-entry.popped.items c.loop-entry.invariant.many c.loop-entry.invariant.takes c.pop_due_entry.ensures.sound.sorted (none_due g c))

pub returns-clause-after : goal.returns-clause-after
returns-clause-after g c =
    c.in_default.ensures.none ∙ takes-after c.args.now c.args.self.now c.args.popped.now.items c.loop-entry.self c.loop-entry.popped.items c.loop-entry.invariant.many c.loop-entry.invariant.takes c.pop_due_entry.ensures.sound.sorted (none_due g c)

pub returns-clause-step : goal.returns-clause-step
returns-clause-step g c =
    subst (λ (a : Agenda g.row.J.Denot). IsStep c.args.self.now a) (sym c.in_default.ensures.none)
    (thins c.args.self.now c.loop-entry.self c.len.ensures.sound
    (takes-part c.args.now c.args.self.now c.args.popped.now.items c.loop-entry.self c.loop-entry.popped.items c.loop-entry.invariant.many c.loop-entry.invariant.takes c.pop_due_entry.ensures.sound.sorted (none_due g c))
    (takes-rest c.args.now c.args.self.now c.args.popped.now.items c.loop-entry.self c.loop-entry.popped.items c.loop-entry.invariant.many c.loop-entry.invariant.takes))
