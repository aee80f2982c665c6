use Rattle.std.proofs.Common.{◌≡◌, ◌∙◌, sym, ap, rules}
use Rattle.std.specs.Ordering.{nat_cmp}
use Rattle.listing.proofs.CallerLemmas.{held-sound, removed-held, removed-listing}
use Rattle.listing.proofs.CallerLemmas.{without-updates, without_entry-none}
use Rattle.agenda.specs.{Agenda.greatest_generation, Layout.agenda_of}
use Rattle.agenda.proofs.Stepping.{leaves}
use Rattle.agenda.proofs.agenda.Agenda.cancel.Goals as goal

pub invariant_of-self-2 : goal.invariant_of-self-2
invariant_of-self-2 g c =
    let some = sym c.allow.ensures ∙ c.in_ok-pair.was in
    removed-held nat_cmp greatest_generation c.self.inside.jobs c.remove.new.self c.ticket.inside.pointer (rw some at c.remove.ensures.removal.removed) c.self.invariant

pub returns-clause-after : goal.returns-clause-after
returns-clause-after g c =
    let some = sym c.allow.ensures ∙ c.in_ok-pair.was in
    rw (← c.self.view_is, ← c.ticket.view_is)
    (removed-listing nat_cmp greatest_generation c.self.inside.jobs c.remove.new.self c.ticket.inside.pointer _ (sym c.remove.ensures.removal.value ∙ some) (rw some at c.remove.ensures.removal.removed))

pub returns-clause-sound : goal.returns-clause-sound
returns-clause-sound g c = rw (← c.self.view_is) (held-sound _ _ _ c.self.inside.jobs c.remove.ensures.takes.sound c.self.invariant)

pub returns-clause-step : goal.returns-clause-step
returns-clause-step g c = leaves _ _ _ (returns-clause-sound g c).distinct (returns-clause-after g c)

pub returns-in_err-pair-clause-after : goal.returns-in_err-pair-clause-after
returns-in_err-pair-clause-after g c =
    let none = sym c.remove.ensures.removal.value ∙ sym c.allow.ensures ∙ c.in_err-pair.was in
    let same : c.remove.new.self ≡ c.self.inside.jobs = search rules in
    rw (← c.self.view_is, ← c.ticket.view_is) (ap agenda_of same ∙ sym (without_entry-none greatest_generation _ c.ticket.inside.pointer (sym none)))

pub returns-in_err-pair-clause-sound : goal.returns-in_err-pair-clause-sound
returns-in_err-pair-clause-sound g c = rw (← c.self.view_is) (held-sound _ _ _ c.self.inside.jobs c.remove.ensures.takes.sound c.self.invariant)

pub returns-in_err-pair-clause-step : goal.returns-in_err-pair-clause-step
returns-in_err-pair-clause-step g c = leaves _ _ _ (returns-in_err-pair-clause-sound g c).distinct (returns-in_err-pair-clause-after g c)

pub returns-clause-updates : goal.returns-clause-updates
returns-clause-updates g c = rw (returns-clause-after g c) (without-updates greatest_generation _ _ (returns-clause-sound g c).distinct)

pub returns-in_err-pair-clause-updates : goal.returns-in_err-pair-clause-updates
returns-in_err-pair-clause-updates g c = rw (returns-in_err-pair-clause-after g c) (without-updates greatest_generation _ _ (returns-in_err-pair-clause-sound g c).distinct)
