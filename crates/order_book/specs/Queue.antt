-- What one side of an order book is: a list of resting orders in the order in which they trade, by price, and at equal prices by age.
use Rattle.std.specs.Prelude.{◌≡◌, ◌≢◌, ℕ, zero, suc, ◌+◌, ◌-◌, ◌≤◌, ◌<◌, min, max, nat_eq, ◌==◌, ◌&&◌, not, leb, nat_lt, if◌then◌else◌, Bool, List, [], ◌∷◌, ◌++◌, filter, length, take, Option, Some, None, IfNone}
use Rattle.std.specs.{List.AllByRecursion, List.Retain.IsFiltered, Fn.Called}
use Rattle.std.specs.Cmp.{IsEquivalence, IsPartialEquivalence, and_equiv, and_per, on_equiv, on_per, nat_eq_equiv, partial_equiv_from_equiv, Lexicographic.pointwise}
use denote.Param.Members.{Mut}
use Rattle.sorted_arena.specs.PlainArena.{doubled_capacity}
use Rattle.order_book.specs.{declared.side.Side.TheVariants.Buy, declared.side.Side.TheVariants.Sell, declared.order.Order.Order}
use Rattle.order_book.specs.{declared.order.Trade.Trade, declared.level.Level.Level, declared.side.Side.Side}
-- the generation after so many removals
pub use Rattle.sorted_arena.specs.Sorted.{generation_after as generation_after_many}
-- how many orders one side can have, the greatest generation of a pointer, and the generation after one
pub use Rattle.sorted_arena.specs.PlainPointer.{most_entries, greatest_generation, generation_after}

-- One side of a book: its orders, first the one that trades first; the generation of the next order's pointer; and how many orders it
-- holds without growing.
pub record Queue (T : Type 0) : Type 0 where
  pub side : Side
  pub orders : List (Order T)
  pub generation : ℕ
  pub capacity : ℕ

-- For buyers the higher price is the better, for sellers the lower: a price p is no worse than q, and p is worse than q.
abbrev pub IsNoWorse : Side → ℕ → ℕ → Type 0
IsNoWorse Buy p q = q ≤ p
IsNoWorse Sell p q = p ≤ q

abbrev pub IsWorse : Side → ℕ → ℕ → Type 0
IsWorse Buy p q = p < q
IsWorse Sell p q = q < p

-- whether an order of this side meets the limit of an order of the other side: its price is the limit, or better for that one
abbrev pub meets : Side → ℕ → ℕ → Bool
meets Buy price limit = leb limit price
meets Sell price limit = leb price limit

module _ {T : Type 0} where
  -- no order stands behind one with a worse price
  abbrev pub IsInOrder : Side → List (Order T) → Type 0
  IsInOrder side [] = Unit {0}
  IsInOrder side (x ∷ xs) = AllByRecursion (λ y. IsNoWorse side x.price y.price) xs × IsInOrder side xs

  -- whether this pointer names the order
  abbrev pub is_named_by : ℕ × ℕ → Order T → Bool
  is_named_by p x = (x.id.pointer.0 == p.0) && (x.id.pointer.1 == p.1)

  -- the order that a pointer names; None if it names none
  abbrev pub order_of : List (Order T) → ℕ × ℕ → Option (Order T)
  order_of [] p = None
  order_of (x ∷ xs) p = if is_named_by p x then Some x else order_of xs p

  -- the orders without the one that a pointer names
  abbrev pub without : List (Order T) → ℕ × ℕ → List (Order T)
  without [] p = []
  without (x ∷ xs) p = if is_named_by p x then xs else x ∷ without xs p

  -- an order of which so much is left
  abbrev pub with_rest : Order T → ℕ → Order T
  with_rest x n = record x { quantity = n }

  -- the orders, of which the one that a pointer names has this quantity
  abbrev pub with_quantity : List (Order T) → ℕ × ℕ → ℕ → List (Order T)
  with_quantity [] p n = []
  with_quantity (x ∷ xs) p n = if is_named_by p x then with_rest x n ∷ xs else x ∷ with_quantity xs p n

  -- no pointer names two orders
  abbrev pub IsDistinct : List (Order T) → Type 0
  IsDistinct [] = Unit {0}
  IsDistinct (x ∷ xs) = (order_of xs x.id.pointer ≡ None) × IsDistinct xs

-- the greatest quantity of an order
abbrev pub most_quantity : ℕ
most_quantity = 18446744073709551615

module _ {T : Type 0} where
  -- there are no more orders than a side can have, each of at most the greatest quantity, so 128 bits hold the sum
  pub record AreSummable (xs : List (Order T)) : Type 0 where
    pub few : length xs ≤ most_entries
    pub bounded : AllByRecursion (λ x. x.quantity ≤ most_quantity) xs

  -- What is true of every side of a book: its orders are of that side and in order, no pointer names two of them, of each something is
  -- left, and all fit in the capacity.
  pub record IsSound (q : Queue T) : Type 0 where
    pub of_side : AllByRecursion (λ x. x.id.side ≡ q.side) q.orders
    pub in_order : IsInOrder q.side q.orders
    pub distinct : IsDistinct q.orders
    pub some_left : AllByRecursion (λ x. 0 < x.quantity) q.orders
    pub summable : AreSummable q.orders
    pub within : length q.orders ≤ q.capacity
    pub limited : q.capacity ≤ most_entries

  -- so many more orders fit without growing
  abbrev pub HasRoomFor : ℕ → Queue T → Type 0
  HasRoomFor n q = length q.orders + n ≤ q.capacity

  -- the order that trades first
  abbrev pub first_of : List (Order T) → Option (Order T)
  first_of [] = None
  first_of (x ∷ xs) = Some x

  -- the whole quantity of some orders
  abbrev pub total : List (Order T) → ℕ
  total [] = 0
  total (x ∷ xs) = x.quantity + total xs

  -- an order joins the level in front if it has its price; otherwise it makes a level of its own
  abbrev pub joined : Order T → List Level → List Level
  joined x [] = record { price = x.price; quantity = x.quantity; count = 1 } ∷ []
  joined x (l ∷ ls) =
      if l.price == x.price then record { price = x.price; quantity = x.quantity + l.quantity; count = suc l.count } ∷ ls
      else record { price = x.price; quantity = x.quantity; count = 1 } ∷ l ∷ ls

  -- the orders by price: for each price its whole quantity and its number of orders
  abbrev pub levels_of : List (Order T) → List Level
  levels_of [] = []
  levels_of (x ∷ xs) = joined x (levels_of xs)

  -- the first levels
  abbrev pub first_levels : ℕ → List (Order T) → List Level
  first_levels n xs = take n (levels_of xs)

  -- the orders at a price and at worse prices, and the orders at a price, in the order in which they trade
  abbrev pub orders_from : Side → ℕ → List (Order T) → List (Order T)
  orders_from side price xs = filter (λ x. meets side price x.price) xs

  abbrev pub orders_at : ℕ → List (Order T) → List (Order T)
  orders_at price xs = filter (λ x. x.price == price) xs

  -- these orders as the level of a price: their whole quantity and their number; None if there are none
  abbrev pub summed : ℕ → List (Order T) → Option Level
  summed price [] = None
  summed price (x ∷ xs) = Some (record { price = price; quantity = total (x ∷ xs); count = length (x ∷ xs) })

  -- the level of a price; None if no order is at the price
  abbrev pub level_at : ℕ → List (Order T) → Option Level
  level_at price xs = summed price (orders_at price xs)

  -- the level of the best price, which is that of the order that trades first
  abbrev pub top_of : List (Order T) → Option Level
  top_of [] = None
  top_of (x ∷ xs) = level_at x.price (x ∷ xs)

  -- how much the orders that meet a limit offer in all
  abbrev pub within : Side → ℕ → List (Order T) → ℕ
  within side limit [] = 0
  within side limit (x ∷ xs) = (if meets side x.price limit then x.quantity else 0) + within side limit xs

  -- how much an order of the other side trades: what it wants, and at most what meets its limit
  abbrev pub traded : Queue T → ℕ → ℕ → ℕ
  traded q limit quantity = min quantity (within q.side limit q.orders)

  -- a trade of so many units of a resting order, at its price: the rest of the order is left
  abbrev pub trade_with : Order T → ℕ → Trade T
  trade_with x n = record { order = x.id; price = x.price; quantity = n; left = x.quantity - n; tag = x.tag }

  -- The first n units of the orders, as trades: each with as much as is taken of its order.
  abbrev pub trades_of_first : ℕ → List (Order T) → List (Trade T)
  trades_of_first n [] = []
  trades_of_first n (x ∷ xs) = if n == 0 then [] else trade_with x (min n x.quantity) ∷ trades_of_first (n - x.quantity) xs

  -- how much trades come to
  abbrev pub volume : List (Trade T) → ℕ
  volume [] = 0
  volume (t ∷ ts) = t.quantity + volume ts

  -- the orders without their first n units: those that are filled have left, and the next has so much less
  abbrev pub behind : ℕ → List (Order T) → List (Order T)
  behind n [] = []
  behind n (x ∷ xs) = if nat_lt n x.quantity then with_rest x (x.quantity - n) ∷ xs else behind (n - x.quantity) xs

  -- the generation once the first n units were taken: the next one for each order that is filled
  abbrev pub generation_behind : ℕ → List (Order T) → ℕ → ℕ
  generation_behind n [] g = g
  generation_behind n (x ∷ xs) g = if nat_lt n x.quantity then g else generation_behind (n - x.quantity) xs (generation_after g)

  -- a queue without its first n units
  abbrev pub taken : ℕ → Queue T → Queue T
  taken n q = record q { orders = behind n q.orders; generation = generation_behind n q.orders q.generation }

  -- a queue without the order that a pointer named: the generation is the next one
  abbrev pub with_left : Queue T → ℕ × ℕ → Queue T
  with_left q p = record q { orders = without q.orders p; generation = generation_after q.generation }

  -- a queue with these of its orders left: each removal gave it the next generation
  abbrev pub with_kept : Queue T → List (Order T) → Queue T
  with_kept q xs = record q { orders = xs; generation = generation_after_many greatest_generation (length q.orders - length xs) q.generation }

  -- a call of a closure for an order may answer the opposite, and leave it in the state f'
  abbrev pub AnswersOpposite : {F : Type 0} → Mut F ((Order T) × Unit {0}) Bool → F → Order T → Bool → F → Type 0
  AnswersOpposite g f x answer f' = Called g f (x, tt) (not answer) f'

  -- A queue after a closure was asked about each order, in the order in which they trade: those for which it answered `true` have left.
  pub record Cancels {F : Type 0} (g : Mut F ((Order T) × Unit {0}) Bool) (f : F) (old new : Queue T) : Type 0 where
    pub filtered : IsFiltered (AnswersOpposite g) f old.orders new.orders
    pub after : new ≡ with_kept old new.orders

  -- A queue after so much is left of the order that a pointer names. It keeps its place; if nothing is left, it leaves.
  abbrev pub reduced : Queue T → ℕ × ℕ → ℕ → Queue T
  reduced q p zero = with_left q p
  reduced q p (suc left) = record q { orders = with_quantity q.orders p (suc left) }

  -- what a pointer names after so many units were taken off the order that it named; nothing if nothing is left
  abbrev pub reduced_order : Option (Order T) → ℕ → Option (Order T)
  reduced_order None n = None
  reduced_order (Some x) n = if nat_lt n x.quantity then Some (with_rest x (x.quantity - n)) else None

  -- how much of an order is left once so many units were taken off; 0 if there is no order
  abbrev pub left_of : Option (Order T) → ℕ → ℕ
  left_of None n = 0
  left_of (Some x) n = x.quantity - n

  -- the trade of so many units of an order, at most all of it; None if there is no order, or no unit is asked for
  abbrev pub executed : Option (Order T) → ℕ → Option (Trade T)
  executed None n = None
  executed (Some x) n = if n == 0 then None else Some (trade_with x (min n x.quantity))

-- a side as a number
abbrev pub side_number : Side → ℕ
side_number Buy = 0
side_number Sell = 1

module _ {T : Type 0} where
  -- whether two orders have the same name, price and quantity, and tags that are equal by this equality
  abbrev pub is_same_order : (T → T → Bool) → Order T → Order T → Bool
  is_same_order eq x y = nat_eq (side_number x.id.side) (side_number y.id.side) && (nat_eq x.id.pointer.0 y.id.pointer.0 && (nat_eq x.id.pointer.1 y.id.pointer.1
      && (nat_eq x.price y.price && (nat_eq x.quantity y.quantity && eq x.tag y.tag))))

  -- the laws of this equality, from those of the equality of tags
  abbrev pub same_order_equiv : {eq : T → T → Bool} → IsEquivalence eq → IsEquivalence (is_same_order eq)
  same_order_equiv tags = and_equiv (on_equiv (λ x. side_number x.id.side) nat_eq_equiv) (and_equiv (on_equiv (λ x. x.id.pointer.0) nat_eq_equiv)
      (and_equiv (on_equiv (λ x. x.id.pointer.1) nat_eq_equiv) (and_equiv (on_equiv (λ x. x.price) nat_eq_equiv)
      (and_equiv (on_equiv (λ x. x.quantity) nat_eq_equiv) (on_equiv (λ x. x.tag) tags)))))

  abbrev pub same_order_per : {eq : T → T → Bool} → IsPartialEquivalence eq → IsPartialEquivalence (is_same_order eq)
  same_order_per tags = and_per (on_per (λ x. side_number x.id.side) (partial_equiv_from_equiv nat_eq_equiv)) (and_per (on_per (λ x. x.id.pointer.0) (partial_equiv_from_equiv nat_eq_equiv))
      (and_per (on_per (λ x. x.id.pointer.1) (partial_equiv_from_equiv nat_eq_equiv)) (and_per (on_per (λ x. x.price) (partial_equiv_from_equiv nat_eq_equiv))
      (and_per (on_per (λ x. x.quantity) (partial_equiv_from_equiv nat_eq_equiv)) (on_per (λ x. x.tag) tags)))))

  -- whether two sides have the same orders
  abbrev pub has_same_orders : (T → T → Bool) → Queue T → Queue T → Bool
  has_same_orders eq q r = pointwise (is_same_order eq) q.orders r.orders

  -- the greatest index among the names of orders, or 0 if there are none
  abbrev pub greatest_index : List (Order T) → ℕ
  greatest_index [] = 0
  greatest_index (x ∷ xs) = max x.id.pointer.0 (greatest_index xs)

  -- a side as it is cloned: with the same orders, names and generation, and room up to the greatest index
  abbrev pub clone_of : Queue T → Queue T
  clone_of q = record q { capacity = greatest_index q.orders }

  -- a resting order by its parts
  abbrev pub resting : Side → ℕ × ℕ → ℕ → ℕ → T → Order T
  resting side p price quantity tag = record { id = record { side = side; pointer = p }; price = price; quantity = quantity; tag = tag }

  -- An order comes to rest: behind every order whose price is no worse, and before every other. Its pointer is new, with the queue's
  -- generation. The queue grows only if there is no room.
  pub record Rests (old : Queue T) (price quantity : ℕ) (tag : T) (p : ℕ × ℕ) (new : Queue T) : Type 0 where
    pub ahead : List (Order T)
    pub later : List (Order T)
    pub before : old.orders ≡ ahead ++ later
    pub after : new.orders ≡ ahead ++ resting old.side p price quantity tag ∷ later
    pub no_worse_ahead : AllByRecursion (λ x. IsNoWorse old.side x.price price) ahead
    pub worse_behind : AllByRecursion (λ x. IsWorse old.side x.price price) later
    pub unused : order_of old.orders p ≡ None
    pub of_generation : p.1 ≡ old.generation
    pub generation : new.generation ≡ old.generation
    pub side : new.side ≡ old.side
    pub capacity : new.capacity ≡ (if nat_lt (length old.orders) old.capacity then old.capacity else doubled_capacity most_entries old.capacity)

  -- from old to new, a pointer names this now, and every other pointer names what it named
  pub record Updates (old new : Queue T) (p : ℕ × ℕ) (named : Option (Order T)) : Type 0 where
    pub changed : order_of new.orders p ≡ named
    pub others : (q : ℕ × ℕ) → q ≢ p → order_of new.orders q ≡ order_of old.orders q

  -- A call that changes the order of a pointer, or removes it: the pointer names `found` afterwards. If it names no order, nothing changes.
  pub record ChangesOrder {X : Type 0} (old : Queue T) (p : ℕ × ℕ) (found : Option (Order T)) (result : Option X) (new : Queue T) : Type 0 where
    pub updates : Updates old new p found
    pub none : IfNone result (new ≡ old)
