-- How the jobs of an agenda are asked for one after another (layout).
use Rattle.std.specs.Prelude.{◌≡◌, ℕ, Bool, if◌then◌else◌, List, ◌∷◌, ◌++◌, Option}
use Rattle.listing.specs.Chain.{first_pointer}
use Rattle.agenda.specs.Agenda.{Agenda, Entry, pointer_of, with_left}

module _ {J : Type 0} where
  -- a list is cut at the job of a ticket
  pub record IsCutAt (es : List (Entry (ℕ × J))) (t : ℕ × ℕ) : Type 0 where
    pub front : List (Entry (ℕ × J))
    pub entry : Entry (ℕ × J)
    pub back : List (Entry (ℕ × J))
    pub cut : es ≡ front ++ entry ∷ back
    pub named : pointer_of entry ≡ t

  -- The job at a cut was asked for, by what such a test answers: it stays at `true` and goes at `false`, and `next` is the ticket of the job
  -- behind it.
  pub record AsksFor {F : Type 0} (R : F → Entry (ℕ × J) → Bool → F → Type 0) (greatest : Option ℕ) (old : Agenda J) (t : ℕ × ℕ) (at : IsCutAt old.entries t) (f g : F) (new : Agenda J)
      (next : Option (ℕ × ℕ)) : Type 0 where
    pub answer : Bool
    pub asked : R f at.entry answer g
    pub left : new ≡ (if answer then old else with_left greatest old (at.front ++ at.back))
    pub next_is : next ≡ first_pointer at.back
