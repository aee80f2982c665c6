-- Iterators over all jobs of an agenda.
use Rattle.std.proofs.Common.{◌≡◌, ℕ, List, length, ap, arith}
use Rattle.std.proofs.{iter.runs.Sources.from_front}
use Rattle.std.specs.{Iterator.YieldsFirstBy, Ordering.nat_cmp}
use Rattle.agenda.specs.Agenda.{Agenda, Entry, most_entries, IsSound}
use Rattle.agenda.specs.Whole.{IteratesOver}

-- an iterator that shows what is left one after another, and begins with all jobs
pub iterates : {A J : Type 0} (shows : A → Entry (ℕ × J)) (a : Agenda J) (given : List (Entry (ℕ × J)))
    → given ≡ a.entries → IsSound nat_cmp most_entries a → IteratesOver shows a given
iterates shows a given is sound = record {
  jobs = is;
  sound = sound;
  runs = from_front (YieldsFirstBy shows (λ left. left)) shows (λ left. left) (λ s t h. ap length h.0) (λ s x t h. h);
  fits = omega (arith, ap length is);
}
