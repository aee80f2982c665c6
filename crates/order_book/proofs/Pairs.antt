-- Bids and asks stay apart after each call: if no bid was at or above an ask, none is.
use Rattle.std.proofs.Common.{◌≡◌, ℕ, zero, suc, ◌<◌, ◌≤◌, true, false, arith, if◌then◌else◌, Option, Some, None, Result, Ok, Err, IfOk, IfNone, IfSome, List, sym, ap, subst, ◌∙◌}
use Rattle.order_book.specs.{Queue.Queue, Queue.IsInOrder, Queue.taken, Queue.with_left, Queue.with_kept, Queue.Cancels, Queue.reduced, Id.Id, declared.order.Order.Order, declared.side.Side.TheVariants.Buy, declared.side.Side.TheVariants.Sell, declared.order.Trade.Trade}
use Rattle.order_book.specs.{Layout.IsPairOfQueues, Layout.Settles, Book.IsUncrossed, Book.Book, Book.RestsOrNot, Book.limit_of, Book.can_rest, Book.dealt, Book.undealt, Book.remainder, declared.new_order.NewOrder.NewOrder}
use denote.Param.Members.{Mut}
use Rattle.std.specs.{Prelude.Bool, List.AllByRecursion, List.items_where_true}
use Rattle.sorted_arena.proofs.OrdLemmas.{recursion-map as all-weaker}
use Rattle.order_book.proofs.Cancelling.{all-kept}
use Rattle.order_book.proofs.Apart.{apart-asks_without, apart-bids_without, apart-ask_reduced, apart-bid_reduced, apart-bought, apart-sold}

module _ {T : Type 0} where
  -- bids and asks are what they are called, and no bid is at or above an ask
  pub record IsApart (bids asks : Queue T) : Type 0 where
    pub buys : bids.side ≡ Buy
    pub sells : asks.side ≡ Sell
    pub uncrossed : IsUncrossed (record { bids = bids; asks = asks })

  -- which is so of an uncrossed book of these two, and makes one uncrossed
  pub apart-of : (bids asks : Queue T) (b : Book T) → IsPairOfQueues bids asks → record { bids = bids; asks = asks } ≡ b → IsUncrossed b → IsApart bids asks
  apart-of bids asks b pair is uncrossed = record { buys = pair.buys; sells = pair.sells; uncrossed = subst (λ (c : Book T). IsUncrossed c) (sym is) uncrossed }

  pub uncrossed-by : (bids asks : Queue T) (b : Book T) → IsApart bids asks → b ≡ record { bids = bids; asks = asks } → IsUncrossed b
  uncrossed-by bids asks b apart is = subst (λ (c : Book T). IsUncrossed c) (sym is) apart.uncrossed

  -- an order that comes to rest is on its queue's side
  side-rested : (own new : Queue T) (price rest : ℕ) (tag : T) (id : Option Id) → RestsOrNot own price rest tag id new → new.side ≡ own.side
  side-rested own new price rest tag None rests = ap (λ (q : Queue T). q.side) rests.1
  side-rested own new price rest tag (Some id) rests = rests.2.side

  -- at most what isn't traded comes to rest
  part-rests : (q : Queue T) (o : NewOrder T) → remainder q o ≤ undealt q o
  part-rests q o = elim (can_rest o.kind) as (λ b. (if b then undealt q o else 0) ≤ undealt q o) [
    | true ↦ omega arith
    | false ↦ omega arith
  ]

  module _ (bids asks : Queue T) (pair : IsApart bids asks) where
    -- an order leaves
    pub pair-without_bid : (p : ℕ × ℕ) → IsApart (with_left bids p) asks
    pair-without_bid p = record { buys = pair.buys; sells = pair.sells; uncrossed = apart-bids_without bids.orders asks.orders pair.uncrossed p }

    pub pair-without_ask : (p : ℕ × ℕ) → IsApart bids (with_left asks p)
    pair-without_ask p = record { buys = pair.buys; sells = pair.sells; uncrossed = apart-asks_without bids.orders asks.orders pair.uncrossed p }

    -- so much is left of an order
    pub pair-bid_less : (p : ℕ × ℕ) (left : ℕ) → IsApart (reduced bids p left) asks
    pair-bid_less p zero = pair-without_bid p
    pair-bid_less p (suc left) = record { buys = pair.buys; sells = pair.sells; uncrossed = apart-bid_reduced bids.orders asks.orders pair.uncrossed p (suc left) }

    pub pair-ask_less : (p : ℕ × ℕ) (left : ℕ) → IsApart bids (reduced asks p left)
    pair-ask_less p zero = pair-without_ask p
    pair-ask_less p (suc left) = record { buys = pair.buys; sells = pair.sells; uncrossed = apart-ask_reduced bids.orders asks.orders pair.uncrossed p (suc left) }

    -- or it names none
    pub pair-bid_reduced : {X : Type 0} (new : Queue T) (o : Option X) (rest : X → ℕ) (p : ℕ × ℕ) → IfSome o (λ x. new ≡ reduced bids p (rest x)) → IfNone o (new ≡ bids) → IsApart new asks
    pair-bid_reduced new None rest p after none = subst (λ q. IsApart q asks) (sym none) pair
    pair-bid_reduced new (Some x) rest p after none = subst (λ q. IsApart q asks) (sym after) (pair-bid_less p (rest x))

    pub pair-ask_reduced : {X : Type 0} (new : Queue T) (o : Option X) (rest : X → ℕ) (p : ℕ × ℕ) → IfSome o (λ x. new ≡ reduced asks p (rest x)) → IfNone o (new ≡ asks) → IsApart bids new
    pair-ask_reduced new None rest p after none = subst (λ q. IsApart bids q) (sym none) pair
    pair-ask_reduced new (Some x) rest p after none = subst (λ q. IsApart bids q) (sym after) (pair-ask_less p (rest x))

    module _ (o : NewOrder T) where
      abbrev price : ℕ
      price = limit_of o.side o.kind

      -- an order to buy has come in
      pair-bought : (new : Queue T) (id : Option Id) → IsInOrder asks.side asks.orders → RestsOrNot bids price (remainder asks o) o.tag id new
          → IsApart new (taken (dealt asks o) asks)
      pair-bought new id sorted rests = record {
        buys = side-rested bids new price (remainder asks o) o.tag id rests ∙ pair.buys;
        sells = pair.sells;
        uncrossed = apart-bought bids asks new price o.quantity (remainder asks o) o.tag (part-rests asks o) sorted id pair.sells pair.uncrossed rests;
      }

      -- an order to sell has come in
      pair-sold : (new : Queue T) (id : Option Id) → IsInOrder bids.side bids.orders → RestsOrNot asks price (remainder bids o) o.tag id new
          → IsApart (taken (dealt bids o) bids) new
      pair-sold new id sorted rests = record {
        buys = pair.buys;
        sells = side-rested asks new price (remainder bids o) o.tag id rests ∙ pair.sells;
        uncrossed = apart-sold asks bids new price o.quantity (remainder bids o) o.tag (part-rests bids o) sorted id pair.buys pair.uncrossed rests;
      }

  -- An order comes in, or is refused, which leaves both sides as they were. Before it comes, its own side may have lost an order, which leaves `from`.
  module _ {E : Type 0} (bids asks new_bids new_asks : Queue T) (pair : IsApart bids asks) (o : NewOrder T) (before after : List (Trade T)) (from : Queue T) where
    pub pair-settled_bid : IsApart from asks → (r : Result (Option Id) E) → IsInOrder asks.side asks.orders
        → IfOk r (λ id. RestsOrNot from (limit_of o.side o.kind) (remainder asks o) o.tag id new_bids) → Settles bids asks o before r new_bids new_asks after → IsApart new_bids new_asks
    pair-settled_bid paired (Ok id) sorted rests settles =
        subst (λ q. IsApart new_bids q) (sym settles.taken) (pair-bought from asks paired o new_bids id sorted rests)
    pair-settled_bid paired (Err e) sorted rests settles =
        subst (λ q. IsApart new_bids q) (sym settles.other_kept) (subst (λ q. IsApart q asks) (sym settles.own_kept) pair)

    pub pair-settled_ask : IsApart bids from → (r : Result (Option Id) E) → IsInOrder bids.side bids.orders
        → IfOk r (λ id. RestsOrNot from (limit_of o.side o.kind) (remainder bids o) o.tag id new_asks) → Settles asks bids o before r new_asks new_bids after → IsApart new_bids new_asks
    pair-settled_ask paired (Ok id) sorted rests settles =
        subst (λ q. IsApart q new_asks) (sym settles.taken) (pair-sold bids from paired o new_asks id sorted rests)
    pair-settled_ask paired (Err e) sorted rests settles =
        subst (λ q. IsApart q new_asks) (sym settles.other_kept) (subst (λ q. IsApart bids q) (sym settles.own_kept) pair)

  -- some orders leave, by the answers of a test
  module _ (bids asks : Queue T) (apart : IsApart bids asks) (bs : List Bool) where
    pub apart-bids_kept : IsApart (with_kept bids (items_where_true bs bids.orders)) asks
    apart-bids_kept = record { buys = apart.buys; sells = apart.sells; uncrossed = all-kept (λ (bid : Order T). AllByRecursion (λ (ask : Order T). bid.price < ask.price) asks.orders) bs bids.orders apart.uncrossed }

    pub apart-asks_kept : IsApart bids (with_kept asks (items_where_true bs asks.orders))
    apart-asks_kept = record {
      buys = apart.buys;
      sells = apart.sells;
      uncrossed = all-weaker _ _ (λ (bid : Order T) below. all-kept (λ (ask : Order T). bid.price < ask.price) bs asks.orders below) bids.orders apart.uncrossed;
    }

  module _ {F : Type 0} (m : Mut F ((Order T) × Unit {0}) Bool) (f : F) (bids asks new : Queue T) (apart : IsApart bids asks) where
    pub apart-bids_cancelled : Cancels m f bids new → IsApart new asks
    apart-bids_cancelled cancels = subst (λ q. IsApart q asks) (sym (cancels.after ∙ ap (with_kept bids) cancels.filtered.4)) (apart-bids_kept bids asks apart cancels.filtered.0)

    pub apart-asks_cancelled : Cancels m f asks new → IsApart bids new
    apart-asks_cancelled cancels = subst (λ q. IsApart bids q) (sym (cancels.after ∙ ap (with_kept asks) cancels.filtered.4)) (apart-asks_kept bids asks apart cancels.filtered.0)
