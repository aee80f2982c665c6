-- How one side of a book lies as rows, and how levels are summed up (layout).
use Rattle.std.specs.Prelude.{◌≡◌, ℕ, ◌-◌, ◌≤◌, ◌<◌, Bool, if◌then◌else◌, List, ◌∷◌, ◌++◌, map, Option}
use Rattle.std.specs.{Option.option_map, Fn.Called}
use denote.Param.Members.{Mut}
use Rattle.std.specs.List.{AllByRecursion}
use Rattle.sorted_arena.specs.Chain.{Entry}
use Rattle.sorted_arena.specs.Sorted.{Sorted}
use Rattle.order_book.specs.{declared.side.Side.TheVariants.Buy, declared.side.Side.TheVariants.Sell, declared.order.Order.Order, Queue.Queue, Queue.first_of, Queue.with_left}
use Rattle.order_book.specs.{declared.order.Lot.Lot, declared.ladder.Totals.Totals, declared.level.Level.Level, declared.side.Side.Side}

-- the greatest price, and the greatest quantity
abbrev pub most_price : ℕ
most_price = 18446744073709551615

-- The rank of a price, which is the key: of two orders the one of the lesser rank trades first. The price of a rank is found the same way.
abbrev pub ranked : Side → ℕ → ℕ
ranked Buy number = most_price - number
ranked Sell number = number

module _ {T : Type 0} where
  -- an entry as a resting order: its pointer is in the order's name, and its key is the rank of the price
  abbrev pub order_in : Side → Entry (ℕ × Lot T) → Order T
  order_in side e = record {
    id = record { side = side; pointer = (e.index, e.generation) };
    price = ranked side e.item.0;
    quantity = e.item.1.quantity;
    tag = e.item.1.tag;
  }

  -- the queue that an arena holds
  abbrev pub queue_of : Side → Sorted ℕ (Lot T) → Queue T
  queue_of side a = record { side = side; orders = map (order_in side) a.entries; generation = a.generation; capacity = a.capacity }

  -- a rank and the quantity of its lot are numbers of 64 bits, and something is left
  pub record IsLawful (item : ℕ × Lot T) : Type 0 where
    pub price : item.0 ≤ most_price
    pub quantity : item.1.quantity ≤ most_price
    pub some : 0 < item.1.quantity

  -- all entries are so
  abbrev pub AreLawful : List (Entry (ℕ × Lot T)) → Type 0
  AreLawful es = AllByRecursion (λ (e : Entry (ℕ × Lot T)). IsLawful e.item) es

-- what a level sums up, at the price of its rank
abbrev pub summed_level : Side → ℕ → Totals → Level
summed_level side rank t = record { price = ranked side rank; quantity = t.quantity; count = t.count }

abbrev pub level_in : Side → Entry (ℕ × Totals) → Level
level_in side l = summed_level side l.item.0 l.item.1

module _ {T : Type 0} where
  -- orders are cut at the one that a pointer names
  pub record IsCutAt (xs : List (Order T)) (p : ℕ × ℕ) : Type 0 where
    pub front : List (Order T)
    pub order : Order T
    pub back : List (Order T)
    pub cut : xs ≡ front ++ order ∷ back
    pub named : p ≡ order.id.pointer

  -- The order at a cut was asked for: it leaves at `true`, and `next` is the pointer of the one behind it.
  pub record AsksFor {F : Type 0} (g : Mut F ((Order T) × Unit {0}) Bool) (f : F) (old : Queue T) {p : ℕ × ℕ} (at : IsCutAt old.orders p) (f' : F) (new : Queue T) (next : Option (ℕ × ℕ)) : Type 0 where
    pub answer : Bool
    pub asked : Called g f (at.order, tt) answer f'
    pub left : new ≡ (if answer then with_left old p else old)
    pub next_is : next ≡ option_map (λ (x : Order T). x.id.pointer) (first_of at.back)
