-- Bounds on the entries that a search visits.
use Rattle.std.specs.Prelude.{◌≡◌, ℕ, ◌+◌, ◌-◌, ◌^◌, ◌<◌, ◌≤◌, length}
use Rattle.ord_tree.specs.{Chain.IsDistinct, Half.IsRebuilt, Numbers.fib, Numbers.HasDigits, Ranks.IsRanked, Ranks.IsTight}
use Rattle.ord_tree.specs.{Shape.Shape, Shape.size_of, Shape.height, Tree.Tree}

-- the bounds on the visits c of a search among n entries in this shape
pub record IsWithinBounds (n : ℕ) (shape : Shape) (c : ℕ) : Type 0 where
  -- in any shape that obeys the rank rules, as every arena's does
  pub ranked : 0 < n → 2 ^ (c + 1) ≤ (n + 1) ^ 2
  -- in a tight shape, which it is while only insertions have come
  pub tight : IsTight shape → fib (c + 2) ≤ n + 1
  -- in a rebuilt shape: at most as many as n has binary digits
  pub rebuilt : IsRebuilt shape → (digits : ℕ) → HasDigits n digits → c ≤ digits
  -- in an empty list
  pub empty : n ≡ 0 → c ≡ 0

-- a search of an arena that finds this with c visits, within the bounds; no two entries have the same index
pub record IsBoundedSearch {T : Type 0} (t : Tree T) (c : ℕ) (finds : Type 0) : Type 0 where
  pub found : finds
  pub visits : IsWithinBounds (length t.list.entries) t.shape c
  pub distinct : IsDistinct t.list.entries

-- A descent of a probe that had counted `before` visits and then has counted `after`: what it finds with the visits since, and the bounds
-- on them.
pub record IsBoundedDescent {T : Type 0} (t : Tree T) (before after : ℕ) (Finds : ℕ → Type 0) : Type 0 where
  pub found : Finds (after - before)
  pub visits : IsWithinBounds (length t.list.entries) t.shape (after - before)
  pub counted : before ≤ after

-- The bounds on the visits c of a search that first makes steps from a hint: at most num steps, and at most as many as there are entries.
-- The visits of a whole search, or none, are added to them.
pub record IsWithinHintedBounds (n : ℕ) (shape : Shape) (num c : ℕ) : Type 0 where
  pub steps : ℕ
  pub search : ℕ
  pub sum : c ≡ steps + search
  pub few : steps ≤ num
  pub within : steps ≤ n
  pub bounded : IsWithinBounds n shape search

-- a search that visits at most as many entries as the longest path down has is within the bounds
abbrev pub VisitsLaw : Type 0
VisitsLaw = (s : Shape) (c : ℕ) → IsRanked s → c ≤ height s → IsWithinBounds (size_of s) s c
