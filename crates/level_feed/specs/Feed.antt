-- What a feed publishes of a book: updates of price levels, from which a subscriber keeps the levels without the book.
use Rattle.std.specs.Prelude.{◌≡◌, ◌≢◌, ℕ, ◌+◌, ◌<◌, ◌==◌, ◌&&◌, if◌then◌else◌, Bool, false, List, [], ◌∷◌, ◌++◌, map, length, Option, Some, None}
use Rattle.std.specs.List.{AllByRecursion}
use Rattle.order_book.specs.Queue.{Queue, side_number, total, orders_at, level_at, trades_of_first}
use Rattle.order_book.specs.Book.{Book, queue, opposite, limit_of}
use Rattle.order_book.specs.{Id.Id, declared.side.Side.Side, declared.level.Level.Level, declared.order.Order.Order, declared.order.Trade.Trade, declared.new_order.NewOrder.NewOrder, declared.new_order.OrderKind.OrderKind}
use Rattle.order_book.specs.Auction.{IsBestAuction}
use Rattle.order_book.specs.{declared.auction.Auction.Auction, declared.side.Side.TheVariants.Buy, declared.side.Side.TheVariants.Sell}
use Rattle.level_feed.specs.declared.update.LevelUpdate.{LevelUpdate}

-- whether an update is of this price of this side
abbrev pub is_of : Side → ℕ → LevelUpdate → Bool
is_of side price u = (side_number u.side == side_number side) && (u.price == price)

-- the level that an update reports; None if it reports that the level is gone
abbrev pub reported : LevelUpdate → Option Level
reported u = if u.count == 0 then None else Some (record { price = u.price; quantity = u.quantity; count = u.count })

-- The level of a price after updates: what the last update of the price reports; without one, what it was.
abbrev pub updated : Side → ℕ → List LevelUpdate → Option Level → Option Level
updated side price [] level = level
updated side price (u ∷ us) level = updated side price us (if is_of side price u then reported u else level)

-- the price at which something came to rest; none if nothing did
abbrev pub rest_price : ℕ → Option Id → List ℕ
rest_price price None = []
rest_price price (Some id) = price ∷ []

-- The prices at which an order that was replaced rested, and at which the new one rests, once if they are equal.
abbrev pub own_prices : ℕ → ℕ → Option Id → List ℕ
own_prices price limit None = price ∷ []
own_prices price limit (Some id) = if limit == price then price ∷ [] else price ∷ limit ∷ []

-- no two updates are of the same price of the same side
abbrev pub AreOfDistinctLevels : List LevelUpdate → Type 0
AreOfDistinctLevels [] = Unit {0}
AreOfDistinctLevels (u ∷ us) = AllByRecursion (λ (v : LevelUpdate). is_of u.side u.price v ≡ false) us × AreOfDistinctLevels us

module _ {T : Type 0} where
  -- Updates lead from one moment of a book to a later one: whoever has the levels of the old book and applies the updates has those of the
  -- new one, at every price of both sides.
  pub record Follows (old new : Book T) (us : List LevelUpdate) : Type 0 where
    pub levels : (side : Side) (price : ℕ) → level_at price (queue new side).orders ≡ updated side price us (level_at price (queue old side).orders)

  -- the update that says what rests at a price of a side
  abbrev pub update_of : Book T → Side → ℕ → LevelUpdate
  update_of b side price = record { side = side; price = price; quantity = total (orders_at price (queue b side).orders); count = length (orders_at price (queue b side).orders) }

  -- Updates publish what changed from one moment of a book to a later one: they lead there, each is of another level, and each says what
  -- rests there now.
  pub record Publishes (old new : Book T) (us : List LevelUpdate) : Type 0 where
    pub follows : Follows old new us
    pub once : AreOfDistinctLevels us
    pub current : AllByRecursion (λ (u : LevelUpdate). u ≡ update_of new u.side u.price) us

  -- each update reports another level than the old book had
  abbrev pub AreChanges : Book T → List LevelUpdate → Type 0
  AreChanges old us = AllByRecursion (λ (u : LevelUpdate). reported u ≢ level_at u.price (queue old u.side).orders) us

  -- the prices of trades, of which equal ones that are next to each other count once; behind a trade at a price, and from the first one on
  abbrev pub prices_behind : ℕ → List (Trade T) → List ℕ
  prices_behind price [] = []
  prices_behind price (t ∷ ts) = if t.price == price then prices_behind price ts else t.price ∷ prices_behind t.price ts

  abbrev pub prices_of : List (Trade T) → List ℕ
  prices_of [] = []
  prices_of (t ∷ ts) = t.price ∷ prices_behind t.price ts

  -- an update of each of these prices of a side
  abbrev pub updates_at : Book T → Side → List ℕ → List LevelUpdate
  updates_at b side prices = map (update_of b side) prices

  -- The updates after an order came in: of the prices of its trades, on the other side, and of its limit if something of it rests.
  abbrev pub updates_after : Book T → NewOrder T → Option Id → List (Trade T) → List LevelUpdate
  updates_after b o id ts = updates_at b (opposite o.side) (prices_of ts) ++ updates_at b o.side (rest_price (limit_of o.side o.kind) id)

  -- The updates after an order was replaced: of the prices of the new one's trades, of the price of the old one, and of the new one's limit.
  abbrev pub updates_replacing : Book T → Order T → OrderKind → Option Id → List (Trade T) → List LevelUpdate
  updates_replacing b x kind id ts = updates_at b (opposite x.id.side) (prices_of ts) ++ updates_at b x.id.side (own_prices x.price (limit_of x.id.side kind) id)

  -- what rests now at the price of an update
  abbrev pub refreshed : Book T → LevelUpdate → LevelUpdate
  refreshed b u = update_of b u.side u.price

  -- the prices from which an auction takes so many units of a side, and the updates after it: of the bids, and then of the asks
  abbrev pub prices_taken : ℕ → Queue T → List ℕ
  prices_taken n q = prices_of (trades_of_first n q.orders)

  abbrev pub updates_of_auction : Book T → Book T → Auction → List LevelUpdate
  updates_of_auction old new a = updates_at new Buy (prices_taken a.quantity old.bids) ++ updates_at new Sell (prices_taken a.quantity old.asks)

  -- there is an auction, for whose updates a list of this capacity and length has no room
  pub record LacksRoomForUpdates (b : Book T) (capacity held : ℕ) : Type 0 where
    pub auction : Auction
    pub best : IsBestAuction b auction
    pub lacks : capacity < held + length (updates_of_auction b b auction)

-- No updates lead from a book to itself; and those that lead from one moment of it to a second one, with others behind them that lead from
-- there to a third one, lead from the first one to the third.
pub record FollowingLaw (T : Type 0) : Type 0 where
  pub nothing : (b : Book T) → Follows b b []
  pub more : (first second third : Book T) (us vs : List LevelUpdate) → Follows first second us → Follows second third vs → Follows first third (us ++ vs)
