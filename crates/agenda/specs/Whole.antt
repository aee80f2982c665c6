-- Iterators over all jobs of an agenda.
use Rattle.std.specs.Prelude.{◌≡◌, ◌<◌, ◌^◌, ℕ, List, length}
use Rattle.std.specs.{Iterator.YieldsFirstBy, Iterator.Runs.EveryRun, Iterator.Runs.ItemsMapTo, Ordering.nat_cmp}
use Rattle.agenda.specs.Agenda.{Agenda, Entry, most_entries, IsSound}

-- An iterator that gives all jobs in the order in which they leave; that the agenda is sound; and what a chain of iterators needs: each run
-- shows in order what was left, and there are fewer than 2 ^ 64 jobs.
pub record IteratesOver {A J : Type 0} (shows : A → Entry (ℕ × J)) (a : Agenda J) (given : List (Entry (ℕ × J))) : Type 0 where
  pub jobs : given ≡ a.entries
  pub sound : IsSound nat_cmp most_entries a
  pub runs : EveryRun (YieldsFirstBy shows (λ left. left)) (λ p. ItemsMapTo p shows p.from)
  pub fits : length given < 2 ^ 64
