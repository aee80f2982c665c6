-- Tickets that ended stay so.
use Rattle.std.proofs.Common.{◌≤◌, List, [], ◌∷◌, sym, subst}
use Rattle.listing.specs.Steps.{KeepsEnded}
use Rattle.listing.proofs.CallerLemmas.{ended_pointer, goes_on, nowhere, then}
use Rattle.agenda.specs.Agenda.{Agenda}
use Rattle.agenda.specs.Tickets.{IsStep, IsRun, EndedTicketLaw}

module _ {J : Type 0} where
  once : (old new : Agenda J) → IsStep old new → old.generation ≤ new.generation → KeepsEnded old new
  unfolding IsStep
  once old new step up = ended_pointer.one old new step.comes (goes_on old new step.raises up)

  along : (between : List (Agenda J)) (old new : Agenda J) → IsRun old between new → KeepsEnded old new
  along [] old new run = subst (λ (a : Agenda J). KeepsEnded old a) (sym run) (nowhere old)
  along (next ∷ rest) old new run = then old next new (once old next run.0 run.1) (along rest next new run.2)

pub ended_ticket : (J : Type 0) → EndedTicketLaw J
ended_ticket J = record {
  run = λ old new between. along between old new;
  ended = λ old new t step up. (once old new step up).ended t;
  no_later = λ old new step up. (once old new step up).no_later;
  ends = λ old new t step up. (once old new step up).ends t;
}
