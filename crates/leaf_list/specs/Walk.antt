-- What an iterator over entries holds.
use Rattle.std.specs.Prelude.{◌≤◌, ℕ, List, Option}
use Rattle.std.specs.Borrow.{Bor}
use Rattle.leaf_list.specs.Leaves.{Leaf}
use Rattle.leaf_list.specs.Place.{position, IsPlace}

-- The two ends are places, and the second is not before the first.
pub record IsStretch {K : Type 0} (leaves : List (Leaf K)) (first end : Option (ℕ × ℕ)) : Type 0 where
  pub from : IsPlace leaves first
  pub until : IsPlace leaves end
  pub order : position leaves first ≤ position leaves end

-- an entry as an iterator gives it: a reference to its key, and its name
abbrev pub shown_entry : {K I : Type 0} → (I → ℕ) → Bor K × I → K × ℕ
shown_entry number x = (x.0.now, number x.1)
