-- How the best price of an auction is found (layout): one side's levels from the best one on, and the other's from the worst one on.
use Rattle.std.specs.Prelude.{◌≡◌, ℕ, ◌+◌, ◌<◌, if◌then◌else◌, List, [], ◌∷◌, Option, Some, None}
use Rattle.order_book.specs.Queue.{Queue, meets, total, orders_at}
use Rattle.order_book.specs.Auction.{auction_at}
use Rattle.order_book.specs.{declared.level.Level.Level, declared.side.Side.Side, declared.auction.Auction.Auction}

-- the levels that are left: the worst one and those before it; none without a worst one
abbrev pub left_of : Option Level → List Level → List Level
left_of None ls = []
left_of (Some l) ls = l ∷ ls

-- how much they hold
abbrev pub quantity_of : List Level → ℕ
quantity_of [] = 0
quantity_of (l ∷ ls) = l.quantity + quantity_of ls

-- the levels from the first one on that meets a limit
abbrev pub left_within : Side → ℕ → List Level → List Level
left_within side limit [] = []
left_within side limit (l ∷ ls) = if meets side l.price limit then l ∷ ls else left_within side limit ls

module _ {T : Type 0} where
  -- the auction of two sides at the price of an order of the first
  pub record IsOfOrder (own other : Queue T) (a : Auction) : Type 0 where
    pub is : a ≡ auction_at own other a.price
    pub of_order : 0 < total (orders_at a.price own.orders)
