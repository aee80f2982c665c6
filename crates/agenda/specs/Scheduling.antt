-- How jobs are scheduled one after another (layout).
use Rattle.std.specs.Prelude.{◌≡◌, ℕ, ◌+◌, ◌≤◌, List, ◌++◌, map, length, Some, None, IsSome}
use Rattle.std.specs.List.{AllByRecursion}
use Rattle.listing.specs.Chain.{times}
use Rattle.agenda.specs.Agenda.{Agenda, get, count, IsFree, Keeps}
use Rattle.agenda.specs.Bulk.{entries_of, with_all}

module _ {J : Type 0} where
  -- These jobs were scheduled within the capacity, and their tickets appended to a vector.
  pub record SchedulesEach (old : Agenda J) (jobs : List (ℕ × J)) (given filled : List (ℕ × ℕ)) (new : Agenda J) : Type 0 where
    pub tickets : List (ℕ × ℕ)
    pub filled_is : filled ≡ given ++ tickets
    pub entries : new.entries ≡ with_all (entries_of tickets jobs) old.entries
    pub named : map (get new) tickets ≡ map Some jobs
    pub free : AllByRecursion (IsFree old) tickets
    pub keeps : Keeps old new
    pub comes : (q : ℕ × ℕ) → get old q ≡ None → IsSome (get new q) → q.1 ≡ old.generation
    pub occupies : (i : ℕ) → times i old.entries ≤ times i new.entries
    pub count : count new ≡ count old + length jobs
    pub capacity : new.capacity ≡ old.capacity
    pub generation : new.generation ≡ old.generation
