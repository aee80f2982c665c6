-- Which of two auctions is better.
use Rattle.std.specs.Prelude.{◌⊎◌}
use Rattle.std.proofs.Common.{◌≡◌, ℕ, ◌-◌, ◌≤◌, ◌<◌, min, max, refl, inl, inr, arith}
use Rattle.order_book.specs.Queue.{Queue}
use Rattle.order_book.specs.Auction.{auction_at, offered_at, IsNoBetter}
use Rattle.order_book.specs.declared.auction.Auction.{Auction}

-- none is better than itself, and two steps make one
pub no_better-same : (a : Auction) → IsNoBetter a a
no_better-same a = inr (refl, inr (refl, omega arith))

pub no_better-then : (a b c : Auction) → IsNoBetter a b → IsNoBetter b c → IsNoBetter a c
no_better-then a b c (inl h) (inl k) = inl (omega (arith, h, k))
no_better-then a b c (inl h) (inr k) = inl (omega (arith, h, k.0))
no_better-then a b c (inr h) (inl k) = inl (omega (arith, h.0, k))
no_better-then a b c (inr h) (inr k) = inr (omega (arith, h.0, k.0), go h.1 k.1)
  where
    go : (b.surplus < a.surplus) ⊎ ((b.surplus ≡ a.surplus) × (b.price ≤ a.price)) → (c.surplus < b.surplus) ⊎ ((c.surplus ≡ b.surplus) × (c.price ≤ b.price))
        → (c.surplus < a.surplus) ⊎ ((c.surplus ≡ a.surplus) × (c.price ≤ a.price))
    go (inl i) (inl j) = inl (omega (arith, i, j))
    go (inl i) (inr j) = inl (omega (arith, i, j.0))
    go (inr i) (inl j) = inl (omega (arith, i.0, j))
    go (inr i) (inr j) = inr (omega (arith, i.0, j.0), omega (arith, i.1, j.1))

-- in one that is no better no more trades
pub no_better-most : (a b : Auction) → IsNoBetter a b → a.quantity ≤ b.quantity
no_better-most a b (inl h) = omega (arith, h)
no_better-most a b (inr h) = omega (arith, h.0)

-- an auction by its numbers
pub same-auction : (price : ℕ) (n m k l : ℕ) → n ≡ m → k ≡ l
    → ◌≡◌ {A = Auction} (record { price = price; quantity = n; surplus = k }) (record { price = price; quantity = m; surplus = l })
same-auction price n m k l quantities surpluses = rw (quantities, surpluses) refl

module _ {T : Type 0} where
  -- it doesn't matter which side is the first
  pub auction-turned : (q r : Queue T) (price : ℕ) → auction_at q r price ≡ auction_at r q price
  auction-turned q r price = same-auction price _ _ _ _ (omega arith) (omega arith)

-- of two of which neither is better the price is the same
pub same-price : (a b : Auction) → IsNoBetter a b → IsNoBetter b a → a.price ≡ b.price
same-price a b (inl h) (inl k) = absurd (omega (arith, h, k))
same-price a b (inl h) (inr k) = absurd (omega (arith, h, k.0))
same-price a b (inr h) (inl k) = absurd (omega (arith, h.0, k))
same-price a b (inr h) (inr k) = go h.1 k.1
  where
    go : (b.surplus < a.surplus) ⊎ ((b.surplus ≡ a.surplus) × (b.price ≤ a.price)) → (a.surplus < b.surplus) ⊎ ((a.surplus ≡ b.surplus) × (a.price ≤ b.price)) → a.price ≡ b.price
    go (inl i) (inl j) = absurd (omega (arith, i, j))
    go (inl i) (inr j) = absurd (omega (arith, i, j.0))
    go (inr i) (inl j) = absurd (omega (arith, i.0, j))
    go (inr i) (inr j) = omega (arith, i.1, j.1)
