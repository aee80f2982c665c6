-- How the orders of a side and their levels lie in a ladder (layout): a list of orders, and a sorted arena of what each level sums up.
use Rattle.std.specs.Prelude.{◌≡◌, ◌≢◌, ◌==◌, ◌++◌, ◌∷◌, ◌+◌, ◌-◌, ◌≤◌, ◌<◌, ℕ, if◌then◌else◌, List, [], map, length, Option, Some, None}
use Rattle.std.specs.List.{AllByRecursion}
use Rattle.chain_base.specs.Chain.{Entry, Chain, IsDistinct, last_or, from_index, greatest_index}
use Rattle.sorted_arena.specs.Sorted.{Sorted, IsFree}
use Rattle.order_book.specs.{declared.order.Lot.Lot, declared.ladder.Resting.Resting, declared.ladder.Totals.Totals}
use Rattle.order_book.specs.QueueLayout.{AreLawful}

module _ {T : Type 0} where
  -- an order of the list by its rank and its lot, and the list so
  abbrev pub row_of : Entry (Resting T) → Entry (ℕ × Lot T)
  row_of e = record { index = e.index; generation = e.generation; item = (e.item.rank, e.item.lot) }

  abbrev pub rows_of : Chain (Resting T) → Sorted ℕ (Lot T)
  rows_of c = record { entries = map row_of c.entries; generation = c.generation; capacity = c.capacity }

  -- the orders from an index on by their ranks and lots; none without an index
  abbrev pub rows_left : List (Entry (Resting T)) → Option ℕ → List (Entry (ℕ × Lot T))
  rows_left es None = []
  rows_left es (Some i) = map row_of (from_index es i)

  -- how much is left of these orders in all
  abbrev pub quantity_of : List (Entry (Resting T)) → ℕ
  quantity_of [] = 0
  quantity_of (e ∷ es) = e.item.lot.quantity + quantity_of es

  -- an order of a level has the level's rank, and its pointer
  pub record IsOf (l : Entry (ℕ × Totals)) (e : Entry (Resting T)) : Type 0 where
    pub rank : e.item.rank ≡ l.item.0
    pub level : e.item.level ≡ (l.index, l.generation)

  -- A level has these orders, of which there is at least one: it keeps how much is left of them in all, how many there are, and the index of
  -- the last one.
  pub record IsLevel (l : Entry (ℕ × Totals)) (group : List (Entry (Resting T))) : Type 0 where
    pub members : AllByRecursion (IsOf l) group
    pub quantity : l.item.1.quantity ≡ quantity_of group
    pub count : l.item.1.count ≡ length group
    pub last : last_or None group ≡ Some l.item.1.last

  -- the orders are those of the levels, one level's behind another's
  abbrev pub AreLaid : List (Entry (ℕ × Totals)) → List (Entry (Resting T)) → Type 0
  AreLaid [] es = es ≡ []
  AreLaid (l ∷ ls) es = (group : List (Entry (Resting T))) × (rest : List (Entry (Resting T))) × (es ≡ group ++ rest) × IsLevel l group × AreLaid ls rest

-- the ranks of the levels rise
abbrev pub Rise : List (Entry (ℕ × Totals)) → Type 0
Rise [] = Unit {0}
Rise (l ∷ ls) = AllByRecursion (λ (m : Entry (ℕ × Totals)). l.item.0 < m.item.0) ls × Rise ls

module _ {T : Type 0} where
  -- What holds of every ladder: its orders are those of its levels, whose ranks rise; no two orders share an index, and each is lawful; and
  -- there is room for as many levels as for orders.
  pub record IsLadder (orders : Chain (Resting T)) (levels : Sorted ℕ Totals) : Type 0 where
    pub laid : AreLaid levels.entries orders.entries
    pub rising : Rise levels.entries
    pub distinct : IsDistinct (map row_of orders.entries)
    pub lawful : AreLawful (map row_of orders.entries)
    pub unlimited : orders.maximum ≡ None
    pub room : orders.capacity ≤ levels.capacity

  -- A list is cut directly behind the order at an index; before all orders, if there is no index.
  pub record IsCutBehind (es : List (Entry (Resting T))) (index : Option ℕ) : Type 0 where
    pub front : List (Entry (Resting T))
    pub back : List (Entry (Resting T))
    pub cut : es ≡ front ++ back
    pub last : last_or None front ≡ index

  -- No level has the rank, and the order at the index is the last one of the levels of lesser ranks, if there is one.
  pub record IsBetween (rank : ℕ) (levels : List (Entry (ℕ × Totals))) (orders : List (Entry (Resting T))) (index : Option ℕ) : Type 0 where
    pub absent : AllByRecursion (λ (l : Entry (ℕ × Totals)). l.item.0 ≢ rank) levels
    pub last : (low high : List (Entry (ℕ × Totals))) (front back : List (Entry (Resting T))) → levels ≡ low ++ high → orders ≡ front ++ back → AreLaid low front
        → AllByRecursion (λ (l : Entry (ℕ × Totals)). l.item.0 ≤ rank) low → AllByRecursion (λ (l : Entry (ℕ × Totals)). rank < l.item.0) high → last_or None front ≡ index

  -- An order came to rest: behind every one whose rank is at most its own, and before every other, under a pointer that was free.
  pub record IsPut (old : Sorted ℕ (Lot T)) (p : ℕ × ℕ) (rank : ℕ) (lot : Lot T) (new : Sorted ℕ (Lot T)) : Type 0 where
    pub front : List (Entry (ℕ × Lot T))
    pub back : List (Entry (ℕ × Lot T))
    pub before : old.entries ≡ front ++ back
    pub after : new.entries ≡ front ++ record { index = p.0; generation = p.1; item = (rank, lot) } ∷ back
    pub at_most_before : AllByRecursion (λ (e : Entry (ℕ × Lot T)). e.item.0 ≤ rank) front
    pub greater_behind : AllByRecursion (λ (e : Entry (ℕ × Lot T)). rank < e.item.0) back
    pub free : IsFree old p
    pub generation : new.generation ≡ old.generation

  -- The orders, their generation and their capacity are the same.
  abbrev pub KeepsRows : Chain (Resting T) → Chain (Resting T) → Type 0
  KeepsRows old new = rows_of new ≡ rows_of old

  -- A list has the orders and the generation of another, and room up to the greatest index. It has no maximum.
  pub record IsCloneOf (source new : Chain (Resting T)) : Type 0 where
    pub entries : new.entries ≡ source.entries
    pub generation : new.generation ≡ source.generation
    pub capacity : new.capacity ≡ greatest_index source.entries
    pub unlimited : new.maximum ≡ None

-- what a level sums up without an order of this quantity, at this index and directly behind the one at the other
abbrev pub without_last : ℕ → ℕ → Option ℕ → ℕ
without_last last index None = last
without_last last index (Some before) = if last == index then before else last

abbrev pub without_order : Totals → ℕ → ℕ → Option ℕ → Totals
without_order t quantity index before =
    record { quantity = t.quantity - quantity; count = t.count - 1; last = without_last t.last index before }

-- what a level sums up after the quantity of one of its orders changed
abbrev pub with_other : Totals → ℕ → ℕ → Totals
with_other t before after = record t { quantity = t.quantity - before + after }
