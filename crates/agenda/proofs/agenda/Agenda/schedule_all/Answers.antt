use Rattle.std.proofs.Common.{◌∙◌, ◌++◌, ℕ, List, refl, sym, ap, subst}
use Rattle.std.specs.List.{All}
use Rattle.std.proofs.lemmas.List.Elements.{All-from_recursion}
use Rattle.agenda.specs.Agenda.{IsFree}
use Rattle.agenda.proofs.{Stepping.stays, Stepping.fills, Scheduling.appended, Scheduling.all-free}
use Rattle.agenda.proofs.agenda.Agenda.schedule_all.Goals as goal

pub returns-in_default-clause-step : goal.returns-in_default-clause-step
returns-in_default-clause-step g c = stays _ _ refl

pub returns-clause-free : goal.returns-clause-free
returns-clause-free g c =
    let s = c.schedule_each.ensures.schedules in
    subst (λ (ts : List (ℕ × ℕ)). All (IsFree c.args.self.now) ts)
    (sym (appended c.args.tickets.now.items c.schedule_each.new.tickets.items s.tickets (s.filled_is ∙ ap (λ ts. ts ++ s.tickets) c.reserve.ensures.items)))
    (All-from_recursion _ _ (all-free c.args.self.now c.reserve-2.new.self s.tickets c.reserve-2.ensures.jobs c.reserve-2.ensures.generation s.free))

pub returns-clause-step : goal.returns-clause-step
returns-clause-step g c = fills c.args.self.now c.reserve-2.new.self c.schedule_each.new.self _ _ _ c.reserve-2.ensures.jobs c.reserve-2.ensures.generation c.schedule_each.ensures.schedules
