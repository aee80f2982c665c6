use Rattle.std.proofs.Common.{◌≡◌, ◌∙◌, ℕ, Option, Some, None, IfSome, OnSome, refl, sym}
use Rattle.listing.specs.Chain.{IsDistinct}
use Rattle.listing.proofs.CallerLemmas.{first-same, without-updates}
use Rattle.agenda.specs.Agenda.{Agenda, greatest_generation, get, without_entry, Leaves}
use Rattle.agenda.proofs.Stepping.{stays}
use Rattle.agenda.proofs.agenda.Agenda.pop_due.Goals as goal

on_some : {X : Type 0} (o : Option X) (P : Type 0) → P → OnSome o P
on_some None P holds = tt
on_some (Some x) P holds = holds

-- a job that leaves, by the ticket that names it
left : {J : Type 0} (old new : Agenda J) (t : ℕ × ℕ) (o : Option (ℕ × J)) → IsDistinct old.entries → o ≡ get old t → new ≡ without_entry greatest_generation old t → IfSome o (λ job. Leaves old new job)
left old new t None distinct is after = tt
left old new t (Some job) distinct is after = record { ticket = t; named = sym is; updates = rw after (without-updates greatest_generation old t distinct) }

pub returns-clause-leaves : goal.returns-clause-leaves
returns-clause-leaves g c = left _ _ _ c.cancel.result c.cancel.ensures.sound.distinct c.cancel.ensures.value c.cancel.ensures.after

pub returns-clause-gone : goal.returns-clause-gone
returns-clause-gone g c = on_some c.cancel.result _ (c.cancel.ensures.after ∙ sym (first-same greatest_generation c.args.self.now c.in_ok-first.first (rw (← c.self.view_is) c.in_ok-first.ensures.value)))

pub returns-in_err-first-clause-step : goal.returns-in_err-first-clause-step
returns-in_err-first-clause-step g c = stays _ _ refl

pub returns-then-deadline-now-clause-step : goal.returns-then-deadline-now-clause-step
returns-then-deadline-now-clause-step g c = stays _ _ refl
