-- Where an iterator over a sorted arena stands (layout).
use Rattle.std.specs.Prelude.{ℕ, ◌+◌, ◌-◌, ◌≤◌, ◌<◌, ◌^◌, Bool, true, false, List, Option, Some, None, take, drop, length}
use Rattle.listing.specs.Chain.{Entry}
use Rattle.sorted_arena.specs.{Layout.AreNumbered, Stretch.stretch, Stretch.IsStretch}

-- the position of the entry with this index in a list whose entries have the indexes from 1 on; the end of all, if there is none
abbrev pub position_of : ℕ → Option ℕ → ℕ
position_of count None = count
position_of count (Some i) = i - 1

module _ {T : Type 0} where
  -- the entries that are left: those counted, or those between two indexes
  abbrev pub left_at : List (Entry T) → Bool → Option ℕ → Option ℕ → ℕ → ℕ → List (Entry T)
  left_at es true first end from left = take left (drop from es)
  left_at es false first end from left = stretch es first end

  -- There are so many entries, fewer than 2 ^ 64 and at most as many as pointers have indexes, and they have the indexes from 1 on; or
  -- the list is cut at these indexes.
  abbrev pub IsPlace : ℕ → List (Entry T) → Bool → Option ℕ → Option ℕ → ℕ → ℕ → Type 0
  IsPlace most es true first end from left = AreNumbered 1 es × (from + left ≤ length es) × (length es < 2 ^ 64) × (length es ≤ most)
  IsPlace most es false first end from left = IsStretch es first end
