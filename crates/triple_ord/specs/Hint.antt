-- The distance of a hint: the number of entries from the hint to the gap where a key belongs.
use Rattle.std.specs.{Prelude.◌≡◌, Prelude.Option, Option.option_map, Option.option_or, Prelude.ℕ, Prelude.◌+◌, Prelude.◌-◌, Prelude.◌≤◌, Prelude.◌==◌, Prelude.nat_lt, Prelude.if◌then◌else◌, Prelude.List, Prelude.[], Prelude.◌∷◌, Prelude.length, Prelude.IsSome, Prelude.IfNone, declared.cmp.Ordering.Ordering}
use Rattle.ord_tree.specs.{Chain.Entry, Chain.IsDistinct, Chain.entry_at, Tree.Tree}
use Rattle.triple_ord.specs.{VisitBounds.IsWithinBounds, VisitBounds.IsWithinHintedBounds, Search.FindsSimilar, Gap.Gap, Gap.before, Gap.after, Gap.present, Order.IsInOrder, Search.Fits, Search.pointer, Search.order_to}

module _ {T : Type 0} where
  -- the number of entries before the one with this index
  abbrev pub position_of : List (Entry T) → ℕ → ℕ
  position_of [] i = 0
  position_of (e ∷ es) i = if e.index == i then 0 else position_of es i + 1

  -- The number of entries from the one at this position to the far neighbour of a gap, both counted. From a position before the gap that
  -- is the entry after it, from one behind the gap the entry before it, and without it the end of the list.
  abbrev pub way_length : {entries : List (Entry T)} → Gap entries → ℕ → ℕ
  way_length gap at = if nat_lt at (length gap.front) then length gap.front + present (after gap) - at
      else at + 1 - (length gap.front - present (before gap))

  -- the entry at the end of that stretch: the far neighbour, or the end of the list if there is none
  abbrev pub way_end : {entries : List (Entry T)} → Gap entries → ℕ → Option (Entry T)
  way_end gap at = if nat_lt at (length gap.front) then option_or (after gap) (before gap) else option_or (before gap) (after gap)

-- On a list in the order of its keys, with a gap that fits k, a search from the entry at index i makes at most as many visits as there
-- are entries from there to the gap's far neighbour, if these are at most num.
abbrev pub IsNearHint : {T K : Type 0} → (T → K) → (K → K → Ordering) → List (Entry T) → K → ℕ → ℕ → ℕ → Type 0
IsNearHint key cmp entries k i num c = IsInOrder key cmp entries → IsSome (entry_at entries i) → (gap : Gap entries) → Fits key cmp gap k
    → way_length gap (position_of entries i) ≤ num → c ≤ way_length gap (position_of entries i)

-- On a list in the order of its keys, with a gap that fits k, a search from the entry at index i returns the entry at the end of the
-- stretch to the gap, if the stretch has at most num entries.
abbrev pub AnswersNear : {T K : Type 0} → (T → K) → (K → K → Ordering) → List (Entry T) → K → ℕ → ℕ → Option ((ℕ × ℕ) × Ordering) → Type 0
AnswersNear key cmp entries k i num found = IsInOrder key cmp entries → IsSome (entry_at entries i) → (gap : Gap entries) → Fits key cmp gap k
    → way_length gap (position_of entries i) ≤ num
    → found ≡ option_map (λ e. (pointer e, order_to key cmp k e)) (way_end gap (position_of entries i))

-- A search for a similar key that first makes at most num steps from the entry at index i, with c visits. `taking` orders keys as the
-- search takes equal ones. No two entries have the same index.
pub record SearchesNear {T K : Type 0} (key : T → K) (cmp taking : K → K → Ordering) (t : Tree T) (k : K) (i num : ℕ)
    (answer : Option ((ℕ × ℕ) × Ordering)) (c : ℕ) : Type 0 where
  pub found : FindsSimilar key taking t.list.entries k answer c
  pub visits : IsWithinHintedBounds (length t.list.entries) t.shape num c
  pub unhinted : IfNone (entry_at t.list.entries i) (IsWithinBounds (length t.list.entries) t.shape c)
  pub near : IsNearHint key cmp t.list.entries k i num c
  pub answers : AnswersNear key cmp t.list.entries k i num answer
  pub distinct : IsDistinct t.list.entries
