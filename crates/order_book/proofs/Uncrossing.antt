-- After an auction at the best price no bid is at or above an ask: else more would have traded at the price of one of the two.
use Rattle.std.proofs.Common.{◌≡◌, ℕ, ◌+◌, ◌-◌, ◌≤◌, ◌<◌, min, map, true, false, Ok, List, [], ◌∷◌, ◌++◌, append_assoc, refl, sym, ap, subst, ◌∙◌, inl, inr, arith, if◌then◌else◌}
use Rattle.std.specs.Prelude.{◌⊎◌}
use Rattle.std.proofs.{lemmas.Bool.Decides.eqb_tells, lemmas.Bool.Decides.leb_tells, lemmas.Bool.Decides.nat_tests, lemmas.Bool.lt-ltb, lemmas.Bool.le-ltb}
use Rattle.std.specs.List.{AllByRecursion}
use Rattle.sorted_arena.proofs.CallerLemmas.{all-both}
use Rattle.sorted_arena.proofs.OrdLemmas.{recursion-map as all-weaker}
use Rattle.order_book.specs.Queue.{Queue, IsNoWorse, IsInOrder, meets, within, behind, taken, total, orders_at, volume, trades_of_first}
use Rattle.order_book.specs.Book.{Book, IsBook, IsUncrossed}
use Rattle.order_book.specs.Auction.{auction_at, offered_at, at_price, fills, IsNoBetter, NoneIsBetter, IsBestAuction, Auctions, BestAuctionLaw}
use Rattle.order_book.specs.AuctionSteps.{IsOfOrder}
use Rattle.order_book.specs.Names.{IsStep}
use Rattle.order_book.specs.{declared.side.Side.TheVariants.Buy, declared.side.Side.TheVariants.Sell, declared.side.Side.Side, declared.order.Order.Order, declared.order.Trade.Trade, declared.auction.Auction.Auction}
use Rattle.order_book.proofs.{Apart.AreApart, Apart.all-behind, Taking.behind-none, Levels.within-most, Volumes.volume-first}
use Rattle.order_book.proofs.Preferring.{no_better-then, no_better-most, auction-turned, same-price}
use Rattle.order_book.proofs.{Names.goes-other, Names.step-of, Meeting.met-own, Meeting.met-no_worse}

module _ {T : Type 0} where
  -- behind the first n units, at the price of each order that is left more than n were offered
  more-offered : (side : Side) (n : ℕ) (xs : List (Order T)) → IsInOrder side xs → AllByRecursion (λ (x : Order T). 0 < x.quantity) xs
      → AllByRecursion (λ (y : Order T). n < within side y.price xs) (behind n xs)
  more-offered side n [] sorted some = tt
  more-offered side n (x ∷ xs) sorted some = elim (leb_tells x.quantity n) [
    | inl whole ↦ rw (le-ltb n x.quantity whole.1) (all-both (λ (y : Order T). n - x.quantity < within side y.price xs) (λ (y : Order T). IsNoWorse side x.price y.price) (λ (y : Order T). n < within side y.price (x ∷ xs))
        (λ y more no_worse. let here : within side y.price (x ∷ xs) ≡ x.quantity + within side y.price xs = rw (met-no_worse side x.price y.price no_worse) refl in omega (arith, more, here, whole.1))
        (behind (n - x.quantity) xs) (more-offered side (n - x.quantity) xs sorted.1 some.1) (all-behind (λ p. IsNoWorse side x.price p) (n - x.quantity) xs sorted.0))
    | inr part ↦
        let first : n < within side x.price (x ∷ xs) = rw (met-own side x.price) (omega (arith, part.1)) in
        rw (lt-ltb n x.quantity part.1) (
          first,
          all-weaker (λ (y : Order T). IsNoWorse side x.price y.price) (λ (y : Order T). n < within side y.price (x ∷ xs))
              (λ y no_worse. rw (met-no_worse side x.price y.price no_worse) (omega (arith, part.1))) xs sorted.0,
        )
  ]

  -- asks offer no less at a higher price
  rises : (p q : ℕ) → p ≤ q → (xs : List (Order T)) → within Sell p xs ≤ within Sell q xs
  rises p q up [] = omega arith
  rises p q up (x ∷ xs) = elim (leb_tells x.price p) [
    | inl low ↦ let high : meets Sell x.price q ≡ true = grind (arith, nat_tests, low.1, up) in rw (low.0, high) (omega (arith, rises p q up xs))
    | inr above ↦ rw above.0 (omega (arith, rises p q up xs))
  ]

  module _ (bids asks : List (Order T)) (n : ℕ) (buys : IsInOrder Buy bids) (sells : IsInOrder Sell asks) (some_bids : AllByRecursion (λ (x : Order T). 0 < x.quantity) bids)
      (some_asks : AllByRecursion (λ (x : Order T). 0 < x.quantity) asks) (most : AllByRecursion (λ (x : Order T). min (within Buy x.price bids) (within Sell x.price asks) ≤ n) bids) where
    -- where at the price of no bid more than n units trade, the orders behind the first n of both sides are apart
    pub apart-behind : AreApart (behind n bids) (behind n asks)
    apart-behind = all-both (λ (y : Order T). n < within Buy y.price bids) (λ (y : Order T). min (within Buy y.price bids) (within Sell y.price asks) ≤ n) (λ (y : Order T). AllByRecursion (λ (z : Order T). y.price < z.price) (behind n asks))
        (λ y more least. all-weaker (λ (z : Order T). n < within Sell z.price asks) (λ (z : Order T). y.price < z.price) (λ z offered. above y z more least offered) (behind n asks) (more-offered Sell n asks sells some_asks))
        (behind n bids) (more-offered Buy n bids buys some_bids) (all-behind (λ p. min (within Buy p bids) (within Sell p asks) ≤ n) n bids most)
      where
        above : (y z : Order T) → n < within Buy y.price bids → min (within Buy y.price bids) (within Sell y.price asks) ≤ n → n < within Sell z.price asks → y.price < z.price
        above y z more least offered = elim (leb_tells z.price y.price) [
          | inl below ↦ absurd (omega (arith, more, least, offered, rises z.price y.price below.1 asks))
          | inr h ↦ h.1
        ]

  -- an auction of a book at the price of one of its orders
  record IsOf (b : Book T) (a : Auction) : Type 0 where
    pub is : a ≡ auction_at b.bids b.asks a.price
    pub of_order : 0 < total (orders_at a.price b.bids.orders) + total (orders_at a.price b.asks.orders)

  module _ (b : Book T) (lawful : IsBook b) where
    buys : IsInOrder Buy b.bids.orders
    buys = subst (λ s. IsInOrder s b.bids.orders) lawful.buys lawful.bids.in_order

    sells : IsInOrder Sell b.asks.orders
    sells = subst (λ s. IsInOrder s b.asks.orders) lawful.sells lawful.asks.in_order

    -- what both sides offer at a price
    quantity-is : (p : ℕ) → (auction_at b.bids b.asks p).quantity ≡ min (within Buy p b.bids.orders) (within Sell p b.asks.orders)
    quantity-is p = ap (λ s. min (within s p b.bids.orders) (offered_at b.asks p)) lawful.buys ∙ ap (λ s. min (within Buy p b.bids.orders) (within s p b.asks.orders)) lawful.sells

    most-traded : (a : Auction) → NoneIsBetter b.bids b.asks a b.bids.orders → AllByRecursion (λ (x : Order T). min (within Buy x.price b.bids.orders) (within Sell x.price b.asks.orders) ≤ a.quantity) b.bids.orders
    most-traded a best = all-weaker (λ (x : Order T). IsNoBetter (auction_at b.bids b.asks x.price) a) (λ (x : Order T). min (within Buy x.price b.bids.orders) (within Sell x.price b.asks.orders) ≤ a.quantity)
        (λ x no_better. omega (arith, quantity-is x.price, no_better-most (auction_at b.bids b.asks x.price) a no_better)) b.bids.orders best

    pub uncrossed-behind : (a : Auction) → NoneIsBetter b.bids b.asks a b.bids.orders → AreApart (behind a.quantity b.bids.orders) (behind a.quantity b.asks.orders)
    uncrossed-behind a best = apart-behind b.bids.orders b.asks.orders a.quantity buys sells lawful.bids.some_left lawful.asks.some_left (most-traded a best)

    -- so if nothing trades at the price of any bid, the book is uncrossed
    pub uncrossed-none : (a : Auction) → NoneIsBetter b.bids b.asks a b.bids.orders → a.quantity ≡ 0 → IsUncrossed b
    uncrossed-none a best none = subst (λ xs. AreApart b.bids.orders xs) (behind-none b.asks.orders lawful.asks.some_left)
        (subst (λ xs. AreApart xs (behind 0 b.asks.orders)) (behind-none b.bids.orders lawful.bids.some_left)
        (subst (λ n. AreApart (behind n b.bids.orders) (behind n b.asks.orders)) none (uncrossed-behind a best)))

    -- the best auction of a crossed book, found along its bids and then along its asks
    pub best-found : (none first a : Auction) → (IsUncrossed b → ⊥) → none.quantity ≡ 0
        → NoneIsBetter b.bids b.asks first b.bids.orders → (first ≡ none) ⊎ IsOfOrder b.bids b.asks first
        → IsNoBetter first a → NoneIsBetter b.asks b.bids a b.asks.orders → (a ≡ first) ⊎ IsOfOrder b.asks b.bids a → IsBestAuction b a
    best-found none first a crossed empty bids_best bids_found better asks_best asks_found = record {
      is = (go asks_found).is;
      some = some;
      of_order = (go asks_found).of_order;
      bids = bids;
      asks = all-weaker (λ (x : Order T). IsNoBetter (auction_at b.asks b.bids x.price) a) (λ (x : Order T). IsNoBetter (auction_at b.bids b.asks x.price) a)
          (λ x h. subst (λ c. IsNoBetter c a) (auction-turned b.asks b.bids x.price) h) b.asks.orders asks_best;
    }
      where
        bids : NoneIsBetter b.bids b.asks a b.bids.orders
        bids = all-weaker (λ (x : Order T). IsNoBetter (auction_at b.bids b.asks x.price) first) (λ (x : Order T). IsNoBetter (auction_at b.bids b.asks x.price) a)
            (λ x h. no_better-then (auction_at b.bids b.asks x.price) first a h better) b.bids.orders bids_best

        some : 0 < a.quantity
        some = elim (leb_tells a.quantity 0) [
          | inl none ↦ absurd (crossed (uncrossed-none a bids (omega (arith, none.1))))
          | inr h ↦ h.1
        ]

        of_first : a ≡ first → (first ≡ none) ⊎ IsOfOrder b.bids b.asks first → IsOf b a
        of_first same (inl nothing) = absurd (omega (arith, some, ap (λ (c : Auction). c.quantity) same, ap (λ (c : Auction). c.quantity) nothing, empty))
        of_first same (inr found) = subst (λ c. IsOf b c) (sym same) (record { is = found.is; of_order = omega (arith, found.of_order) })

        go : (a ≡ first) ⊎ IsOfOrder b.asks b.bids a → IsOf b a
        go (inl same) = of_first same bids_found
        go (inr found) = record { is = found.is ∙ auction-turned b.asks b.bids a.price; of_order = omega (arith, found.of_order) }

  -- what holds at the prices of orders holds at a price at which something rests
  at-price : (P : ℕ → Type 0) (p : ℕ) (xs : List (Order T)) → AllByRecursion (λ (x : Order T). P x.price) xs → 0 < total (orders_at p xs) → P p
  at-price P p [] all some = absurd (omega (arith, some))
  at-price P p (x ∷ xs) all some = elim (eqb_tells x.price p) [
    | inl h ↦ subst P h.1 all.0
    | inr h ↦ at-price P p xs all.1 (rw h.0 at some)
  ]

  -- so of two best auctions neither is better, and they are the same
  best-no_better : (b : Book T) (a c : Auction) → IsBestAuction b a → IsBestAuction b c → IsNoBetter a c
  best-no_better b a c first second = subst (λ (d : Auction). IsNoBetter d c) (sym first.is) (elim (leb_tells (total (orders_at a.price b.bids.orders)) 0) [
    | inl none ↦ at-price (λ p. IsNoBetter (auction_at b.bids b.asks p) c) a.price b.asks.orders second.asks (omega (arith, first.of_order, none.1))
    | inr some ↦ at-price (λ p. IsNoBetter (auction_at b.bids b.asks p) c) a.price b.bids.orders second.bids some.1
  ])

  pub best-same : BestAuctionLaw T
  best-same b a c first second =
      first.is ∙ ap (auction_at b.bids b.asks) (same-price a c (best-no_better b a c first second) (best-no_better b c a second first)) ∙ sym second.is

  -- the trades of an auction come to what it comes to
  volume-at : (price : ℕ) (ts : List (Trade T)) → volume (map (at_price price) ts) ≡ volume ts
  volume-at price [] = refl
  volume-at price (t ∷ ts) = omega (arith, volume-at price ts)

  pub fills-volume : (a : Auction) (xs : List (Order T)) → a.quantity ≤ total xs → volume (fills a xs) ≡ a.quantity
  fills-volume a xs most = volume-at a.price (trades_of_first a.quantity xs) ∙ volume-first a.quantity xs most

  pub best-within : (b : Book T) (a : Auction) → IsBestAuction b a → (a.quantity ≤ total b.bids.orders) × (a.quantity ≤ total b.asks.orders)
  best-within b a best =
      let is = ap (λ (c : Auction). c.quantity) best.is in
      (omega (arith, is, within-most b.bids.side a.price b.bids.orders), omega (arith, is, within-most b.asks.side a.price b.asks.orders))

  -- both sides of a book trade in its auction
  module _ (bids asks bids_now asks_now : Queue T) (old : Book T) (is : record { bids = bids; asks = asks } ≡ old) (a : Auction) (best : IsBestAuction old a)
      (bids_after : bids_now ≡ taken a.quantity bids) (asks_after : asks_now ≡ taken a.quantity asks) where
    best-here : IsBestAuction (record { bids = bids; asks = asks }) a
    best-here = subst (λ (b : Book T). IsBestAuction b a) (sym is) best

    pub auctioned : (before bought sold : List (Trade T)) → bought ≡ before ++ fills a bids.orders → sold ≡ bought ++ fills a asks.orders
        → Auctions old before a (record { bids = bids_now; asks = asks_now }) sold
    auctioned before bought sold first second =
        let most = best-within (record { bids = bids; asks = asks }) a best-here in
        subst (λ (b : Book T). Auctions b before a (record { bids = bids_now; asks = asks_now }) sold) is (record {
          best = best-here;
          trades = second ∙ ap (λ ts. ts ++ fills a asks.orders) first ∙ append_assoc before (fills a bids.orders) (fills a asks.orders);
          bought = fills-volume a bids.orders most.0;
          sold = fills-volume a asks.orders most.1;
          bids = bids_after;
          asks = asks_after;
        })

    pub uncrossed-auctioned : IsBook old → IsUncrossed (record { bids = bids_now; asks = asks_now })
    uncrossed-auctioned lawful = subst (λ (q : Queue T). IsUncrossed (record { bids = q; asks = asks_now })) (sym bids_after)
        (subst (λ (q : Queue T). IsUncrossed (record { bids = taken a.quantity bids; asks = q })) (sym asks_after)
        (subst (λ (b : Book T). AreApart (behind a.quantity b.bids.orders) (behind a.quantity b.asks.orders)) (sym is) (uncrossed-behind old lawful a best.bids)))

    pub step-auctioned : IsBook old → IsStep old (record { bids = bids_now; asks = asks_now })
    step-auctioned lawful =
        let here : IsBook (record { bids = bids; asks = asks }) = subst (λ (b : Book T). IsBook b) (sym is) lawful in
        step-of bids asks bids_now asks_now old (record { bids = bids_now; asks = asks_now }) is refl
        (λ counted. goes-other {X = Unit {0}} {E = Unit {0}} (Ok tt) bids bids_now tt a.quantity here.bids.summable.few bids_after counted)
        (λ counted. goes-other {X = Unit {0}} {E = Unit {0}} (Ok tt) asks asks_now tt a.quantity here.asks.summable.few asks_after counted)
