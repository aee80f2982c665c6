-- Whether a book is crossed shows at its best bid and its best ask; and what may be added to an uncrossed one.
use Rattle.std.specs.Prelude.{◌↔◌, leb}
use Rattle.std.proofs.Common.{◌≡◌, ℕ, ◌<◌, ◌≤◌, false, List, [], ◌∷◌, Some, None, refl, sym, ap, subst, ◌∙◌, arith}
use Rattle.std.proofs.lemmas.Bool.Decides.{nat_tests}
use Rattle.std.specs.{List.AllByRecursion, Prelude.IfSome}
use Rattle.order_book.specs.Book.{Book, IsBook, IsUncrossed, opposite, queue}
use Rattle.order_book.specs.Queue.{Queue, IsInOrder, IsSound, Rests, first_of, traded, behind}
use Rattle.order_book.specs.{declared.side.Side.TheVariants.Buy, declared.side.Side.TheVariants.Sell, declared.order.Order.Order, declared.side.Side.Side}
use Rattle.sorted_arena.proofs.OrdLemmas.{recursion-map as all-weaker}
use Rattle.order_book.proofs.{Apart.AreApart, Apart.first_above, Apart.apart-bought, Apart.apart-sold, Taking.behind-none}

module _ {T : Type 0} where
  -- without a bid or without an ask nothing crosses
  pub apart-no_bid : (bids asks : List (Order T)) → first_of bids ≡ None → AreApart bids asks
  apart-no_bid [] asks none = tt
  apart-no_bid (bid ∷ bids) asks none = absurd (cc)

  pub apart-no_ask : (bids asks : List (Order T)) → first_of asks ≡ None → AreApart bids asks
  apart-no_ask [] [] none = tt
  apart-no_ask (bid ∷ bids) [] none = (tt, apart-no_ask bids [] none)
  apart-no_ask bids (ask ∷ asks) none = absurd (cc)

  -- if the best bid is below the best ask, all bids are below all asks
  pub apart-best : (bids asks : List (Order T)) (bid ask : Order T) → IsInOrder Buy bids → IsInOrder Sell asks → first_of bids ≡ Some bid → first_of asks ≡ Some ask → bid.price < ask.price
      → AreApart bids asks
  apart-best [] asks bid ask buys sells first second below = tt
  apart-best (x ∷ bids) [] bid ask buys sells first second below = absurd (cc)
  apart-best (x ∷ bids) (y ∷ asks) bid ask buys sells first second below =
      let own : x ≡ bid = cc in
      let other : y ≡ ask = cc in
      let under : x.price < y.price = rw (own, other) below in
      let above : (p : ℕ) → p ≤ x.price → AllByRecursion (λ (z : Order T). p < z.price) (y ∷ asks) = λ p at_most. (
        omega (arith, under, at_most),
        all-weaker (λ (z : Order T). y.price ≤ z.price) (λ (z : Order T). p < z.price) (λ z more. omega (arith, under, at_most, more)) asks sells.0,
      ) in
      (above x.price (omega arith), all-weaker (λ (z : Order T). z.price ≤ x.price) (λ (z : Order T). AllByRecursion (λ (ask : Order T). z.price < ask.price) (y ∷ asks)) (λ z less. above z.price less) bids buys.0)

  -- so a best ask that is not at or below the best bid is what makes a book uncrossed
  pub crossed-best : (b : Book T) → IsBook b → (bid ask : Order T) → Some bid ≡ first_of b.bids.orders → Some ask ≡ first_of b.asks.orders → (leb ask.price bid.price ≡ false) ↔ IsUncrossed b
  crossed-best b lawful bid ask first second = (
    λ above. apart-best b.bids.orders b.asks.orders bid ask (subst (λ s. IsInOrder s b.bids.orders) lawful.buys lawful.bids.in_order) (subst (λ s. IsInOrder s b.asks.orders) lawful.sells lawful.asks.in_order)
        (sym first) (sym second) (grind (arith, nat_tests, above)),
    λ uncrossed.
        let found : IfSome (Some ask) (λ y. IfSome (first_of b.bids.orders) (λ x. x.price < y.price)) =
        subst (λ o. IfSome o (λ (y : Order T). IfSome (first_of b.bids.orders) (λ x. x.price < y.price))) (sym second) (first_above b.bids.orders b.asks.orders uncrossed) in
        let below : bid.price < ask.price = subst (λ o. IfSome o (λ (x : Order T). x.price < ask.price)) (sym first) found in
        grind (arith, nat_tests, below),
  )

  -- an order that would trade with nothing comes to rest, and the other side stays as it is
  module _ (own other new : Queue T) (price quantity : ℕ) (tag : T) (p : ℕ × ℕ) (some : 0 < quantity) (sound : IsSound other) (quiet : traded other price quantity ≡ 0) (rests : Rests own price quantity tag p new) where
    all-there : behind (traded other price quantity) other.orders ≡ other.orders
    all-there = ap (λ n. behind n other.orders) quiet ∙ behind-none other.orders sound.some_left

    pub apart-added_bid : other.side ≡ Sell → AreApart own.orders other.orders → AreApart new.orders other.orders
    apart-added_bid sells apart = subst (λ xs. AreApart new.orders xs) all-there
        (apart-bought own other new price quantity quantity tag (omega (arith, quiet)) sound.in_order (Some (record { side = own.side; pointer = p })) sells apart (some, refl, rests))

    pub apart-added_ask : other.side ≡ Buy → AreApart other.orders own.orders → AreApart other.orders new.orders
    apart-added_ask buys apart = subst (λ xs. AreApart xs new.orders) all-there
        (apart-sold own other new price quantity quantity tag (omega (arith, quiet)) sound.in_order (Some (record { side = own.side; pointer = p })) buys apart (some, refl, rests))

  -- which keeps a book uncrossed
  module _ (bids asks new : Queue T) (old now : Book T) (side : Side) (price quantity : ℕ) (tag : T) (p : ℕ × ℕ) (was : record { bids = bids; asks = asks } ≡ old) (some : 0 < quantity) where
    quiet-other : (at : Side) → side ≡ at → traded (queue old (opposite side)) price quantity ≡ 0 → traded (queue (record { bids = bids; asks = asks }) (opposite at)) price quantity ≡ 0
    quiet-other at here quiet = subst (λ (b : Book T). traded (queue b (opposite at)) price quantity ≡ 0) (sym was) (subst (λ s. traded (queue old (opposite s)) price quantity ≡ 0) here quiet)

    apart-before : IsUncrossed old → AreApart bids.orders asks.orders
    apart-before uncrossed = subst (λ (b : Book T). IsUncrossed b) (sym was) uncrossed

    pub uncrossed-added_bid : side ≡ Buy → now ≡ record { bids = new; asks = asks } → asks.side ≡ Sell → IsSound asks → Rests bids price quantity tag p new
        → traded (queue old (opposite side)) price quantity ≡ 0 → IsUncrossed old → IsUncrossed now
    uncrossed-added_bid here is sells sound rests quiet uncrossed = subst (λ (b : Book T). IsUncrossed b) (sym is)
        (apart-added_bid bids asks new price quantity tag p some sound (quiet-other Buy here quiet) rests sells (apart-before uncrossed))

    pub uncrossed-added_ask : side ≡ Sell → now ≡ record { bids = bids; asks = new } → bids.side ≡ Buy → IsSound bids → Rests asks price quantity tag p new
        → traded (queue old (opposite side)) price quantity ≡ 0 → IsUncrossed old → IsUncrossed now
    uncrossed-added_ask here is buys sound rests quiet uncrossed = subst (λ (b : Book T). IsUncrossed b) (sym is)
        (apart-added_ask asks bids new price quantity tag p some sound (quiet-other Sell here quiet) rests buys (apart-before uncrossed))
