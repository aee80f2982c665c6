-- What an order book is: bids and asks that rest until they trade, and what an incoming order does to them.
use Rattle.std.specs.Prelude.{◌≡◌, ◌≢◌, ℕ, ◌+◌, ◌-◌, ◌<◌, Bool, true, false, if◌then◌else◌, List, [], length, Option, Some, None}
use Rattle.std.specs.List.{AllByRecursion}
use Rattle.order_book.specs.Queue.{Queue, IsSound, Rests, most_quantity, order_of, meets, traded, trades_of_first, taken, reduced, with_left}
use Rattle.order_book.specs.{declared.side.Side.TheVariants.Buy, declared.side.Side.TheVariants.Sell, declared.order.Order.Order, declared.order.Trade.Trade, Id.Id}
use Rattle.order_book.specs.declared.side.Side.{Side}
use Rattle.order_book.specs.declared.new_order.OrderKind.TheVariants.{Limit, PostOnly, ImmediateOrCancel, FillOrKill, Market}
use Rattle.order_book.specs.{declared.new_order.OrderKind.OrderKind, declared.new_order.NewOrder.NewOrder}

-- a book: its bids, the highest price first, and its asks, the lowest first
pub record Book (T : Type 0) : Type 0 where
  pub bids : Queue T
  pub asks : Queue T

-- the side with which a side trades
abbrev pub opposite : Side → Side
opposite Buy = Sell
opposite Sell = Buy

module _ {T : Type 0} where
  -- the orders of a side
  abbrev pub queue : Book T → Side → Queue T
  queue b Buy = b.bids
  queue b Sell = b.asks

  -- the book with other orders on a side
  abbrev pub with_queue : Book T → Side → Queue T → Book T
  with_queue b Buy q = record b { bids = q }
  with_queue b Sell q = record b { asks = q }

  -- a side without orders
  abbrev pub empty_queue : Side → Queue T
  empty_queue side = record { side = side; orders = []; generation = 2; capacity = 0 }

  -- no bid is at or above an ask; that is so of a new book, and every call but `add` keeps it so
  abbrev pub IsUncrossed : Book T → Type 0
  IsUncrossed b = AllByRecursion (λ (bid : Order T). AllByRecursion (λ (ask : Order T). bid.price < ask.price) b.asks.orders) b.bids.orders

  -- what holds of every book
  pub record IsBook (b : Book T) : Type 0 where
    pub bids : IsSound b.bids
    pub asks : IsSound b.asks
    pub buys : b.bids.side ≡ Buy
    pub sells : b.asks.side ≡ Sell

  -- the order that this names; None if it names none
  abbrev pub named : Book T → Id → Option (Order T)
  named b id = order_of (queue b id.side).orders id.pointer

-- the price up to which an order of a side and kind trades; a market order takes any price
abbrev pub limit_of : Side → OrderKind → ℕ
limit_of side (Limit price) = price
limit_of side (PostOnly price) = price
limit_of side (ImmediateOrCancel price) = price
limit_of side (FillOrKill price) = price
limit_of Buy Market = most_quantity
limit_of Sell Market = 0

-- whether what such an order doesn't trade comes to rest
abbrev pub can_rest : OrderKind → Bool
can_rest (Limit price) = true
can_rest (PostOnly price) = true
can_rest kind = false

-- whether an order may only rest, and whether it trades as a whole or not at all
abbrev pub only_rests : OrderKind → Bool
only_rests (PostOnly price) = true
only_rests kind = false

abbrev pub is_whole : OrderKind → Bool
is_whole (FillOrKill price) = true
is_whole kind = false

module _ {T : Type 0} where
  -- how much an order trades with a queue: what it wants, and at most what the queue offers within its limit
  abbrev pub dealt : Queue T → NewOrder T → ℕ
  dealt q o = traded q (limit_of o.side o.kind) o.quantity

  -- The trades of an order with a queue: with the first orders first, which have the best price and are at equal prices the oldest, each at
  -- the price of the resting order.
  abbrev pub deals : Queue T → NewOrder T → List (Trade T)
  deals q o = trades_of_first (dealt q o) q.orders

  -- how much of an order isn't traded with a queue, and how much of that comes to rest
  abbrev pub undealt : Queue T → NewOrder T → ℕ
  undealt q o = o.quantity - dealt q o

  abbrev pub remainder : Queue T → NewOrder T → ℕ
  remainder q o = if can_rest o.kind then undealt q o else 0

  -- the same for the queue that an order meets in a book, which is the other side
  abbrev pub trades_for : Book T → NewOrder T → ℕ
  trades_for b o = dealt (queue b (opposite o.side)) o

  abbrev pub trades_of : Book T → NewOrder T → List (Trade T)
  trades_of b o = deals (queue b (opposite o.side)) o

  abbrev pub untraded : Book T → NewOrder T → ℕ
  untraded b o = undealt (queue b (opposite o.side)) o

  abbrev pub rest_of : Book T → NewOrder T → ℕ
  rest_of b o = remainder (queue b (opposite o.side)) o

  -- what is left of an order comes to rest on its side, and is named; if nothing is left, that side stays as it is, and there is no name
  abbrev pub RestsOrNot : Queue T → ℕ → ℕ → T → Option Id → Queue T → Type 0
  RestsOrNot old price rest tag None new = (rest ≡ 0) × (new ≡ old)
  RestsOrNot old price rest tag (Some id) new = (0 < rest) × (id.side ≡ old.side) × Rests old price rest tag id.pointer new

  -- An incoming order trades with the first orders of the other side, as much as it can, and what is left of it rests if its kind rests.
  pub record Places (old : Book T) (o : NewOrder T) (id : Option Id) (new : Book T) : Type 0 where
    pub trades : queue new (opposite o.side) ≡ taken (trades_for old o) (queue old (opposite o.side))
    pub rests : RestsOrNot (queue old o.side) (limit_of o.side o.kind) (rest_of old o) o.tag id (queue new o.side)

  -- none of the trades is with this order
  abbrev pub IsUntraded : Id → List (Trade T) → Type 0
  IsUntraded id ts = AllByRecursion (λ (t : Trade T). t.order ≢ id) ts

  -- each trade, with an order of this side, is within the limit of an order of the other side
  abbrev pub AreWithin : Side → ℕ → List (Trade T) → Type 0
  AreWithin side limit ts = AllByRecursion (λ (t : Trade T). meets side t.price limit ≡ true) ts

  -- from old to new, this names that now, and everything else names what it named
  pub record Updates (old new : Book T) (id : Id) (found : Option (Order T)) : Type 0 where
    pub changed : named new id ≡ found
    pub others : (other : Id) → other ≢ id → named new other ≡ named old other

  -- the book without the order that this names
  abbrev pub without : Book T → Id → Book T
  without b id = with_queue b id.side (with_left (queue b id.side) id.pointer)

  -- the book after so much is left of the order that this names
  abbrev pub with_less : Book T → Id → ℕ → Book T
  with_less b id left = with_queue b id.side (reduced (queue b id.side) id.pointer left)

  -- the order that takes the place of one of this name and tag
  abbrev pub replacement : Id → T → OrderKind → ℕ → NewOrder T
  replacement id tag kind quantity = record { side = id.side; kind = kind; quantity = quantity; tag = tag }

  -- there is no room for one order more, unless the queue grows
  abbrev pub IsFull : Queue T → Type 0
  IsFull q = length q.orders ≡ q.capacity

  -- a list of this capacity and length has no room for all these trades
  abbrev pub LacksRoom : ℕ → ℕ → List (Trade T) → Type 0
  LacksRoom capacity held trades = capacity < held + length trades
