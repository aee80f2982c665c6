-- The state of the steps from a hint. No public clause cites this file.
use Rattle.std.specs.Prelude.{◌≡◌, ℕ, ◌+◌, ◌<◌, ◌≤◌, List, ◌∷◌, ◌++◌, Option, Some, None, IfSome, MatchOption, length}
use Rattle.std.specs.declared.cmp.Ordering.{Ordering, TheVariants.Less, TheVariants.Equal, TheVariants.Greater}
use Rattle.ord_tree.specs.{Chain.Entry, Link.Link}
use Rattle.std.specs.Option.{option_map}
use Rattle.triple_ord.specs.{Hint.way_end, Search.pointer, Search.order_to, Search.Fits, Search.FindsSimilar, Gap.Gap, Gap.first_of, Gap.last_of, Hint.position_of, Hint.way_length, Order.IsInOrder}

-- the neighbour towards a key, none for an equal key
abbrev pub neighbour_towards : {X : Type 0} → Link X → Ordering → Option ℕ
neighbour_towards link Less = link.prev
neighbour_towards link Equal = None
neighbour_towards link Greater = link.next

module _ {T K : Type 0} (key : T → K) (cmp : K → K → Ordering) (entries : List (Entry T)) (k : K) where
  -- the result of the steps, if any, is the result of a search for a similar key
  abbrev pub Settles : Option ((ℕ × ℕ) × Ordering) → ℕ → Type 0
  Settles found visits = IfSome found (λ answer. FindsSimilar key cmp entries k (Some answer) visits)

  -- From the index i, on a list in order with a gap that fits k, the steps end with a result after at most as many visits as there are
  -- entries to the gap. They leave it open only if these are more than num.
  abbrev pub IsNear : {X : Type 0} → ℕ → ℕ → Option X → ℕ → Type 0
  IsNear i num found visits = IsInOrder key cmp entries → (gap : Gap entries) → Fits key cmp gap k
      → MatchOption found (num < way_length gap (position_of entries i)) (λ answer. visits ≤ way_length gap (position_of entries i))

  -- from the index i, on a list in order with a gap that fits k, the result of the steps, if any, is the entry at the end of the stretch
  -- to the gap
  abbrev pub EndsNear : ℕ → Option ((ℕ × ℕ) × Ordering) → Type 0
  EndsNear i found = IsInOrder key cmp entries → (gap : Gap entries) → Fits key cmp gap k
      → IfSome found (λ answer. option_map (λ e. (pointer e, order_to key cmp k e)) (way_end gap (position_of entries i)) ≡ Some answer)

  -- The steps went this many entries from a position, to the entry with `front` before it and `back` after it. The previous entry was
  -- answered `came`, which is `Equal` at the start.
  abbrev pub CameFrom : ℕ → ℕ → List (Entry T) → List (Entry T) → Ordering → Type 0
  CameFrom start visits front back Less =
      (e : Entry T) × (first_of back ≡ Some e) × (order_to key cmp k e ≡ Less) × (1 ≤ visits) × (length front + visits ≡ start)
  CameFrom start visits front back Equal = (visits ≡ 0) × (length front ≡ start)
  CameFrom start visits front back Greater =
      (e : Entry T) × (last_of None front ≡ Some e) × (order_to key cmp k e ≡ Greater) × (1 ≤ visits) × (length front ≡ start + visits)

  -- the steps from a position have come to the entry at index i after this many visits
  pub record IsStepping (start i visits : ℕ) (came : Ordering) : Type 0 where
    pub front : List (Entry T)
    pub entry : Entry T
    pub back : List (Entry T)
    pub cut : entries ≡ front ++ entry ∷ back
    pub here : entry.index ≡ i
    pub from : CameFrom start visits front back came
    pub within : start < length entries
    pub few : visits < length entries
