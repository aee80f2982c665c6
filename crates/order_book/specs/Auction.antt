-- What an auction does to a book, as an exchange opens with one: all that can trades at one price.
use Rattle.std.specs.Prelude.{◌≡◌, ℕ, ◌+◌, ◌-◌, ◌≤◌, ◌<◌, ◌++◌, ◌⊎◌, min, max, List, map, length}
use Rattle.std.specs.List.{AllByRecursion}
use Rattle.order_book.specs.Queue.{Queue, within, total, orders_at, trades_of_first, taken, volume}
use Rattle.order_book.specs.Book.{Book}
use Rattle.order_book.specs.{declared.order.Order.Order, declared.order.Trade.Trade, declared.auction.Auction.Auction}

module _ {T : Type 0} where
  -- how much a side offers at a price: its orders at that price and at better ones
  abbrev pub offered_at : Queue T → ℕ → ℕ
  offered_at q price = within q.side price q.orders

  -- The auction of two sides at a price: as much trades as both offer there. The surplus is what one of them offers beyond that.
  abbrev pub auction_at : Queue T → Queue T → ℕ → Auction
  auction_at q r price = record {
    price = price;
    quantity = min (offered_at q price) (offered_at r price);
    surplus = max (offered_at q price) (offered_at r price) - min (offered_at q price) (offered_at r price);
  }

-- One auction is no better than another if it trades less; or as much, with a greater surplus; or as much with the same surplus, at a
-- price that is no lower.
abbrev pub IsNoBetter : Auction → Auction → Type 0
IsNoBetter a b = (a.quantity < b.quantity)
    ⊎ ((a.quantity ≡ b.quantity) × ((b.surplus < a.surplus) ⊎ ((b.surplus ≡ a.surplus) × (b.price ≤ a.price))))

module _ {T : Type 0} where
  -- At the prices of these orders, no auction of the two sides is better than this one.
  abbrev pub NoneIsBetter : Queue T → Queue T → Auction → List (Order T) → Type 0
  NoneIsBetter q r a xs = AllByRecursion (λ (x : Order T). IsNoBetter (auction_at q r x.price) a) xs

  -- The auction of a book: at the price of one of its orders something trades, and at that of no other order an auction is better.
  pub record IsBestAuction (b : Book T) (a : Auction) : Type 0 where
    pub is : a ≡ auction_at b.bids b.asks a.price
    pub some : 0 < a.quantity
    pub of_order : 0 < total (orders_at a.price b.bids.orders) + total (orders_at a.price b.asks.orders)
    pub bids : NoneIsBetter b.bids b.asks a b.bids.orders
    pub asks : NoneIsBetter b.bids b.asks a b.asks.orders

-- There is only one of a book.
abbrev pub BestAuctionLaw : Type 0 → Type 0
BestAuctionLaw T = (b : Book T) (a c : Auction) → IsBestAuction b a → IsBestAuction b c → a ≡ c

module _ {T : Type 0} where
  -- the trades of an auction with the orders of a side: with the first ones, which have the best price and are at equal prices the oldest,
  -- as much of them as trades, all at the auction's price
  abbrev pub at_price : ℕ → Trade T → Trade T
  at_price price t = record t { price = price }

  abbrev pub fills : Auction → List (Order T) → List (Trade T)
  fills a xs = map (at_price a.price) (trades_of_first a.quantity xs)

  -- all its trades, those of bids before those of asks
  abbrev pub all_fills : Auction → Book T → List (Trade T)
  all_fills a b = fills a b.bids.orders ++ fills a b.asks.orders

  -- A book after its auction, whose trades are appended to a list: what it bought is what it sold, and that has left both sides.
  pub record Auctions (old : Book T) (before : List (Trade T)) (a : Auction) (new : Book T) (after : List (Trade T)) : Type 0 where
    pub best : IsBestAuction old a
    pub trades : after ≡ before ++ all_fills a old
    pub bought : volume (fills a old.bids.orders) ≡ a.quantity
    pub sold : volume (fills a old.asks.orders) ≡ a.quantity
    pub bids : new.bids ≡ taken a.quantity old.bids
    pub asks : new.asks ≡ taken a.quantity old.asks

  -- there is an auction, for whose trades a list of this capacity and length has no room
  pub record LacksRoomForAuction (b : Book T) (capacity held : ℕ) : Type 0 where
    pub auction : Auction
    pub best : IsBestAuction b auction
    pub lacks : capacity < held + length (all_fills auction b)
