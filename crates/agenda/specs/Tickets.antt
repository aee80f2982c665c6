-- What becomes of tickets along the calls of an agenda: one that ended names no job again, unless the generations begin again.
use Rattle.std.specs.Prelude.{◌≡◌, ℕ, ◌≤◌, List, [], ◌∷◌, None, IsSome}
use Rattle.listing.specs.Listing.{get}
use Rattle.agenda.specs.Agenda.{Agenda}
-- that no ticket is later than the agenda, that a ticket has ended, and that those that ended stay so
pub use Rattle.listing.specs.Steps.{HasNoLaterPointer as HasNoLaterTicket, HasEnded, KeepsEnded}
use Rattle.listing.specs.Steps.{IsStep as IsListingStep, Raises}

module _ {J : Type 0} where
  -- One call: a ticket that comes has the agenda's generation, and unless every ticket stays, the generation changes.
  pub record Step (old new : Agenda J) : Type 0 where
    pub comes : IsListingStep old new
    pub raises : Raises old new

  -- the same as one word, so that a caller's proof hands it to the law and doesn't look into it
  unfoldable pub IsStep : Agenda J → Agenda J → Type 0
  IsStep old new = Step old new

  -- A run of calls: each agenda comes from the one before it by a call that doesn't make the generations begin again.
  abbrev pub IsRun : Agenda J → List (Agenda J) → Agenda J → Type 0
  IsRun old [] new = new ≡ old
  IsRun old (next ∷ rest) new = IsStep old next × (old.generation ≤ next.generation) × IsRun next rest new

-- Tickets that ended stay so, along a run of calls that don't make the generations begin again; and the same of one such call.
pub record EndedTicketLaw (J : Type 0) : Type 0 where
  pub run : (old new : Agenda J) (between : List (Agenda J)) → IsRun old between new → KeepsEnded old new
  pub ended : (old new : Agenda J) (t : ℕ × ℕ) → IsStep old new → old.generation ≤ new.generation → HasEnded old t → HasEnded new t
  pub no_later : (old new : Agenda J) → IsStep old new → old.generation ≤ new.generation → HasNoLaterTicket old → HasNoLaterTicket new
  pub ends : (old new : Agenda J) (t : ℕ × ℕ) → IsStep old new → old.generation ≤ new.generation → HasNoLaterTicket old
      → IsSome (get old t) → get new t ≡ None → HasEnded new t
