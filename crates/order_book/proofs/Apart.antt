-- Bids below asks: what stays so, and why nothing that is left crosses an order that comes to rest.
use Rattle.std.proofs.Common.{◌≡◌, ℕ, ◌+◌, ◌-◌, ◌<◌, ◌≤◌, Bool, true, false, List, [], ◌∷◌, ◌++◌, Option, Some, None, refl, subst, arith, inl, inr, if◌then◌else◌}
use Rattle.std.proofs.{lemmas.Bool.Decides.leb_tells, lemmas.Bool.Decides.nat_tests, lemmas.Bool.lt-ltb, lemmas.Bool.le-ltb}
use Rattle.std.specs.{List.AllByRecursion, Prelude.IfSome}
use Rattle.order_book.specs.Queue.{Queue, IsInOrder, Rests, first_of, is_named_by, meets, within, traded, behind, without, with_quantity}
use Rattle.order_book.specs.{declared.side.Side.TheVariants.Buy, declared.side.Side.TheVariants.Sell, declared.order.Order.Order, declared.side.Side.Side, Id.Id}
use Rattle.sorted_arena.proofs.CallerLemmas.{all-between, all-both}
use Rattle.sorted_arena.proofs.OrdLemmas.{recursion-map as all-weaker}
use Rattle.order_book.proofs.Meeting.{unmet-worse}
use Rattle.order_book.specs.Book.{RestsOrNot}

module _ {T : Type 0} where
  -- what is true of the prices of orders is true of those that are left
  module _ (P : ℕ → Type 0) where
    pub all-behind : (n : ℕ) (xs : List (Order T)) → AllByRecursion (λ x. P x.price) xs → AllByRecursion (λ x. P x.price) (behind n xs)
    all-behind n [] all = tt
    all-behind n (x ∷ xs) all = elim (leb_tells x.quantity n) [
      | inl whole ↦ rw (le-ltb n x.quantity whole.1) (all-behind (n - x.quantity) xs all.1)
      | inr part ↦ rw (lt-ltb n x.quantity part.1) all
    ]

    all-without : (xs : List (Order T)) (p : ℕ × ℕ) → AllByRecursion (λ x. P x.price) xs → AllByRecursion (λ x. P x.price) (without xs p)
    all-without [] p all = tt
    all-without (x ∷ xs) p all = elim (is_named_by p x) as (λ b. AllByRecursion (λ y. P y.price) (if b then xs else x ∷ without xs p)) [
      | true ↦ all.1
      | false ↦ (all.0, all-without xs p all.1)
    ]

  -- each of these bids is below each of these asks
  abbrev pub AreApart : List (Order T) → List (Order T) → Type 0
  AreApart bids asks = AllByRecursion (λ (bid : Order T). AllByRecursion (λ (ask : Order T). bid.price < ask.price) asks) bids

  module _ (bids asks : List (Order T)) (apart : AreApart bids asks) where
    -- bids and asks stay apart where some leave
    apart-asks_behind : (n : ℕ) → AreApart bids (behind n asks)
    apart-asks_behind n = all-weaker _ _ (λ bid below. all-behind (λ price. bid.price < price) n asks below) bids apart

    apart-bids_behind : (n : ℕ) → AreApart (behind n bids) asks
    apart-bids_behind n = all-behind (λ price. AllByRecursion (λ (ask : Order T). price < ask.price) asks) n bids apart

    pub apart-asks_without : (p : ℕ × ℕ) → AreApart bids (without asks p)
    apart-asks_without p = all-weaker _ _ (λ bid below. all-without (λ price. bid.price < price) asks p below) bids apart

    pub apart-bids_without : (p : ℕ × ℕ) → AreApart (without bids p) asks
    apart-bids_without p = all-without (λ price. AllByRecursion (λ (ask : Order T). price < ask.price) asks) bids p apart

  -- the first ask is above the first bid
  pub first_above : (bids asks : List (Order T)) → AreApart bids asks → IfSome (first_of asks) (λ ask. IfSome (first_of bids) (λ bid. bid.price < ask.price))
  first_above [] [] apart = tt
  first_above (bid ∷ bids) [] apart = tt
  first_above [] (ask ∷ asks) apart = tt
  first_above (bid ∷ bids) (ask ∷ asks) apart = apart.0.0

  -- in order, where the first doesn't meet a limit none does
  unmet-all : (side : Side) (limit : ℕ) (x : Order T) (xs : List (Order T)) → IsInOrder side (x ∷ xs) → meets side x.price limit ≡ false
      → AllByRecursion (λ y. meets side y.price limit ≡ false) (x ∷ xs)
  unmet-all side limit x xs sorted unmet = (unmet, all-weaker _ _ (λ y no_worse. unmet-worse side x.price y.price limit no_worse unmet) xs sorted.0)

  -- behind all that meets a limit, no order does
  unmet-behind : (side : Side) (limit : ℕ) (xs : List (Order T)) → IsInOrder side xs → AllByRecursion (λ y. meets side y.price limit ≡ false) (behind (within side limit xs) xs)
  unmet-behind side limit [] sorted = tt
  unmet-behind side limit (x ∷ xs) sorted = go (unmet-behind side limit xs sorted.1) (meets side x.price limit) refl
    where
      P : ℕ → Type 0
      P price = meets side price limit ≡ false

      go : AllByRecursion (λ y. P y.price) (behind (within side limit xs) xs) → (b : Bool) → meets side x.price limit ≡ b
          → AllByRecursion (λ y. P y.price) (behind (within side limit (x ∷ xs)) (x ∷ xs))
      go rest true met = rw (met, le-ltb (x.quantity + within side limit xs) x.quantity (omega arith))
          (subst (λ n. AllByRecursion (λ y. P y.price) (behind n xs)) (let same : within side limit xs ≡ (x.quantity + within side limit xs) - x.quantity = omega arith in same) rest)
      go rest false unmet = all-behind P (within side limit (x ∷ xs)) (x ∷ xs) (unmet-all side limit x xs sorted unmet)

  -- where something of an order is left, all that meets its limit was traded
  module _ (q : Queue T) (limit quantity : ℕ) (some : 0 < quantity - traded q limit quantity) where
    all-traded : traded q limit quantity ≡ within q.side limit q.orders
    all-traded = omega (arith, some)

    -- so what is left of the other side doesn't meet it
    left-unmet : IsInOrder q.side q.orders → AllByRecursion (λ y. meets q.side y.price limit ≡ false) (behind (traded q limit quantity) q.orders)
    left-unmet sorted = rw all-traded (unmet-behind q.side limit q.orders sorted)

  -- an incoming order leaves bids and asks apart, also if less than its untraded part comes to rest
  module _ (own other new : Queue T) (price quantity rest : ℕ) (tag : T) (part : rest ≤ quantity - traded other price quantity) (sorted : IsInOrder other.side other.orders) where
    abbrev left : List (Order T)
    left = behind (traded other price quantity) other.orders

    unmet : 0 < rest → AllByRecursion (λ y. meets other.side y.price price ≡ false) left
    unmet some = left-unmet other price quantity (omega (arith, some, part)) sorted

    pub apart-bought : (id : Option Id) → other.side ≡ Sell → AreApart own.orders other.orders → RestsOrNot own price rest tag id new → AreApart new.orders left
    apart-bought None sells apart rests = rw rests.1 (apart-asks_behind own.orders other.orders apart (traded other price quantity))
    apart-bought (Some id) sells apart rests =
        let r : Rests own price rest tag id.pointer new = rests.2 in
        let above : AllByRecursion (λ (ask : Order T). price < ask.price) left =
        all-weaker (λ y. meets Sell y.price price ≡ false) (λ y. price < y.price) (λ y none. grind (arith, nat_tests, none)) left
        (subst (λ side. AllByRecursion (λ y. meets side y.price price ≡ false) left) sells (unmet rests.0)) in
        rw r.after (all-between _ r.ahead _ r.later (rw (← r.before) (apart-asks_behind own.orders other.orders apart (traded other price quantity))) above)

    pub apart-sold : (id : Option Id) → other.side ≡ Buy → AreApart other.orders own.orders → RestsOrNot own price rest tag id new → AreApart left new.orders
    apart-sold None buys apart rests = rw rests.1 (apart-bids_behind other.orders own.orders apart (traded other price quantity))
    apart-sold (Some id) buys apart rests =
        let r : Rests own price rest tag id.pointer new = rests.2 in
        let below : AllByRecursion (λ (bid : Order T). bid.price < price) left =
        all-weaker (λ y. meets Buy y.price price ≡ false) (λ y. y.price < price) (λ y none. grind (arith, nat_tests, none)) left
        (subst (λ side. AllByRecursion (λ y. meets side y.price price ≡ false) left) buys (unmet rests.0)) in
        rw r.after (all-both (λ (bid : Order T). AllByRecursion (λ (ask : Order T). bid.price < ask.price) (r.ahead ++ r.later)) (λ bid. bid.price < price) _
        (λ bid under less. all-between (λ (ask : Order T). bid.price < ask.price) r.ahead _ r.later under less) left
        (rw (← r.before) (apart-bids_behind other.orders own.orders apart (traded other price quantity))) below)

  -- a quantity written at a pointer changes no price
  module _ (P : ℕ → Type 0) where
    all-with_quantity : (xs : List (Order T)) (p : ℕ × ℕ) (n : ℕ) → AllByRecursion (λ x. P x.price) xs → AllByRecursion (λ x. P x.price) (with_quantity xs p n)
    all-with_quantity [] p n all = tt
    all-with_quantity (x ∷ xs) p n all =
        elim (is_named_by p x) as (λ b. AllByRecursion (λ y. P y.price) (if b then record x { quantity = n } ∷ xs else x ∷ with_quantity xs p n)) [
          | true ↦ all
          | false ↦ (all.0, all-with_quantity xs p n all.1)
        ]

  module _ (bids asks : List (Order T)) (apart : AreApart bids asks) (p : ℕ × ℕ) (n : ℕ) where
    pub apart-ask_reduced : AreApart bids (with_quantity asks p n)
    apart-ask_reduced = all-weaker _ _ (λ bid below. all-with_quantity (λ price. bid.price < price) asks p n below) bids apart

    pub apart-bid_reduced : AreApart (with_quantity bids p n) asks
    apart-bid_reduced = all-with_quantity (λ price. AllByRecursion (λ (ask : Order T). price < ask.price) asks) bids p n apart
