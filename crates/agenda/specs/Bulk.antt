-- Many jobs at once.
use Rattle.std.specs.Prelude.{ℕ, List, [], ◌∷◌}
use Rattle.std.specs.Ordering.{nat_cmp}
use Rattle.agenda.specs.Agenda.{Entry, entry_of, put_behind}

module _ {J : Type 0} where
  -- jobs with their deadlines, each under the ticket at its place
  abbrev pub entries_of : List (ℕ × ℕ) → List (ℕ × J) → List (Entry (ℕ × J))
  entries_of [] jobs = []
  entries_of (t ∷ ts) [] = []
  entries_of (t ∷ ts) (job ∷ jobs) = entry_of t job ∷ entries_of ts jobs

  -- the jobs of an agenda with these put in, one after another, each after every job with a deadline ≤ its own
  abbrev pub with_all : List (Entry (ℕ × J)) → List (Entry (ℕ × J)) → List (Entry (ℕ × J))
  with_all [] es = es
  with_all (x ∷ xs) es = with_all xs (put_behind nat_cmp x es)
