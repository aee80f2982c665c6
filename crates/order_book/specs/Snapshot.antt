-- A book as a list of its orders, and the orders of a book that was made of such a list.
use Rattle.std.specs.Prelude.{◌≡◌, ℕ, ◌==◌, ◌++◌, List, filter, map}
use Rattle.order_book.specs.Queue.{IsInOrder, side_number}
use Rattle.order_book.specs.Book.{Book}
use Rattle.order_book.specs.{declared.side.Side.TheVariants.Buy, declared.side.Side.TheVariants.Sell, declared.side.Side.Side, declared.order.Order.Order}

module _ {T : Type 0} where
  -- all orders, bids before asks, each side in the order in which its orders trade
  abbrev pub orders_of : Book T → List (Order T)
  orders_of b = b.bids.orders ++ b.asks.orders

  -- the orders of a side
  abbrev pub of_side : Side → List (Order T) → List (Order T)
  of_side side xs = filter (λ (x : Order T). side_number x.id.side == side_number side) xs

  -- what an order is but for its name: its price, its quantity and its tag
  abbrev pub content : Order T → ℕ × (ℕ × T)
  content x = (x.price, (x.quantity, x.tag))

  -- each side's orders are in the order in which they trade
  pub record AreSidesInOrder (xs : List (Order T)) : Type 0 where
    pub bids : IsInOrder Buy (of_side Buy xs)
    pub asks : IsInOrder Sell (of_side Sell xs)

  -- A book has the orders of a list in the list's order, under names of its own.
  pub record HasOrders (b : Book T) (xs : List (Order T)) : Type 0 where
    pub bids : map content b.bids.orders ≡ map content (of_side Buy xs)
    pub asks : map content b.asks.orders ≡ map content (of_side Sell xs)

  -- two books have the same orders, under names of their own
  pub record HaveSameOrders (b c : Book T) : Type 0 where
    pub bids : map content b.bids.orders ≡ map content c.bids.orders
    pub asks : map content b.asks.orders ≡ map content c.asks.orders
