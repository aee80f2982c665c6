use Rattle.std.proofs.Common.{refl, ◌∙◌}
use Rattle.listing.proofs.CallerLemmas.{first-same, without-updates}
use Rattle.agenda.specs.Agenda.{greatest_generation}
use Rattle.agenda.proofs.Stepping.{stays}
use Rattle.agenda.proofs.agenda.Agenda.pop_due_entry.Goals as goal

pub returns-in_err-first-clause-step : goal.returns-in_err-first-clause-step
returns-in_err-first-clause-step g c = stays _ _ refl

pub returns-clause-updates : goal.returns-clause-updates
returns-clause-updates g c =
    rw (c.in_ok-deadline.ensures.gone ∙ first-same greatest_generation c.args.self.now c.in_ok-first.first (rw (← c.self.view_is) c.in_ok-first.ensures.value))
    (without-updates greatest_generation c.args.self.now c.in_ok-first.first c.in_ok-deadline.ensures.sound.distinct)
