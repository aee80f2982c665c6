-- What the order trades as it is admitted, in the book without the orders that are cancelled.
use Rattle.std.proofs.Common.{◌≡◌, ℕ, ◌-◌, ◌<◌, ◌≤◌, min, Bool, true, false, not, map, ◌&&◌, if◌then◌else◌, List, [], length, refl, sym, ap, subst, ◌∙◌, arith}
use Rattle.std.specs.List.{AllByRecursion, list_any}
use Rattle.order_book.specs.{declared.side.Side.TheVariants.Buy, declared.side.Side.TheVariants.Sell, declared.order.Order.Order}
use Rattle.order_book.specs.declared.side.Side.{Side}
use Rattle.order_book.specs.declared.new_order.{NewOrder.NewOrder, OrderKind.TheVariants.ImmediateOrCancel}
use Rattle.order_book.specs.Queue.{Queue, IsDistinct, IsInOrder, IsSound, within, traded, total, trades_of_first}
use Rattle.order_book.specs.Book.{Book, opposite, queue, limit_of, can_rest, only_rests, is_whole, trades_for, trades_of, untraded, rest_of, IsBook}
use Rattle.self_trade.specs.declared.policy.SelfTrade.{SelfTrade}
use Rattle.self_trade.specs.Prevention.{cancels_resting, cancels_incoming, is_stopped, AreAnswers, allowed, refused, withdrawn, without_all, facing, admitted}
use Rattle.self_trade.specs.declared.survey.Survey.{Survey}
use Rattle.self_trade.specs.Survey.{AreNamed}
use Rattle.self_trade.proofs.Asking.{goes-on, cleared_orders, offered-on, offered-all, offered-stopped, trades-allowed, count-allowed}
use Rattle.self_trade.proofs.Clearing.{all-picked, cleared-none, left_all, without_each, left-orders, left-side, queue-without_all, other-without_all, without-refused, named-refused, AreOf}

and-both : (a b : Bool) → (a && b) ≡ true → (a ≡ true) × (b ≡ true)
and-both true true both = (refl, refl)
and-both true false both = absurd (cc)
and-both false b both = absurd (cc)

opposite-twice : (side : Side) → opposite (opposite side) ≡ side
opposite-twice Buy = refl
opposite-twice Sell = refl

module _ {T : Type 0} where
  -- the queue of a side, of which what a book promises is true
  pub record IsFacing (b : Book T) (side : Side) : Type 0 where
    pub sound : IsSound (queue b side)
    pub of_side : (queue b side).side ≡ side

  pub facing-side : (b : Book T) (side : Side) → IsBook b → IsFacing b side
  facing-side b Buy lawful = record { sound = lawful.bids; of_side = lawful.buys }
  facing-side b Sell lawful = record { sound = lawful.asks; of_side = lawful.sells }

  -- what trades with a queue by its side and its orders
  traded-by : (q : Queue T) (side : Side) (ys : List (Order T)) (limit n : ℕ) → q.side ≡ side → q.orders ≡ ys → traded q limit n ≡ min n (within side limit ys)
  traded-by q side ys limit n of_side orders = ap (λ s. min n (within s limit q.orders)) of_side ∙ ap (λ zs. min n (within side limit zs)) orders

  module _ (policy : SelfTrade) (old : Book T) (o : NewOrder T) (bs : List Bool) (lawful : IsBook old) where
    abbrev side : Side
    side = opposite o.side

    abbrev xs : List (Order T)
    xs = facing old o

    front : IsFacing old side
    front = facing-side old side lawful

    of_side : AreOf side xs
    of_side = subst (λ s. AllByRecursion (λ (y : Order T). y.id.side ≡ s) xs) front.of_side front.sound.of_side

    in_order : IsInOrder side xs
    in_order = subst (λ s. IsInOrder s xs) front.of_side front.sound.in_order

    withdrawn-of_side : AreOf side (withdrawn policy bs xs)
    withdrawn-of_side = go (cancels_resting policy)
      where
        go : (c : Bool) → AreOf side (if c then refused bs xs else [])
        go true = all-picked (λ (y : Order T). y.id.side ≡ side) (map not bs) xs of_side
        go false = tt

    module _ (book : Book T) (same : queue book side ≡ queue old side) where
      -- each of the cancelled orders is named in its turn
      pub withdrawn-named : AreNamed book (withdrawn policy bs xs)
      withdrawn-named = go (cancels_resting policy)
        where
          go : (c : Bool) → AreNamed book (if c then refused bs xs else [])
          go true = subst (λ (q : Queue T). AreOf side q.orders → IsDistinct q.orders → AreNamed book (refused bs q.orders)) same (named-refused side book bs) of_side front.sound.distinct
          go false = tt

      -- the other side once they are cancelled, also in a book that differs on the order's own side
      pub facing-cleared : queue (without_all book (withdrawn policy bs xs)) side ≡ left_all (queue old side) (withdrawn policy bs xs)
      facing-cleared = queue-without_all side book (withdrawn policy bs xs) withdrawn-of_side ∙ ap (λ q. left_all q (withdrawn policy bs xs)) same

      pub own-cleared : queue (without_all book (withdrawn policy bs xs)) o.side ≡ queue book o.side
      own-cleared = subst (λ s. queue (without_all book (withdrawn policy bs xs)) s ≡ queue book s) (opposite-twice o.side) (other-without_all side book (withdrawn policy bs xs) withdrawn-of_side)

      pub cleared-orders : (queue (without_all book (withdrawn policy bs xs)) side).orders ≡ cleared_orders (cancels_resting policy) bs xs
      cleared-orders = ap (λ (q : Queue T). q.orders) facing-cleared ∙ left-orders (queue old side) (withdrawn policy bs xs) ∙ go (cancels_resting policy)
        where
          go : (c : Bool) → without_each xs (if c then refused bs xs else []) ≡ cleared_orders c bs xs
          go true = without-refused bs xs front.sound.distinct
          go false = sym (cleared-none bs xs)

      cleared-side : (queue (without_all book (withdrawn policy bs xs)) side).side ≡ side
      cleared-side = ap (λ (q : Queue T). q.side) facing-cleared ∙ left-side (queue old side) (withdrawn policy bs xs) ∙ front.of_side

      module _ (all : AreAnswers policy side (limit_of o.side o.kind) o.quantity xs bs) where
        abbrev c : Book T
        c = without_all book (withdrawn policy bs xs)

        abbrev limit : ℕ
        limit = limit_of o.side o.kind

        -- how much it may trade with, at most what it wants
        abbrev n : ℕ
        n = min o.quantity (total (allowed bs xs))

        abbrev pub admitted_if : Bool → NewOrder T
        admitted_if stopped = if stopped then record o { kind = ImmediateOrCancel limit; quantity = total (allowed bs xs) } else o

        -- what is offered, whether the order is cancelled on the way or not
        offered-unstopped : is_stopped policy bs ≡ false → min o.quantity (within side limit (cleared_orders (cancels_resting policy) bs xs)) ≡ n
        offered-unstopped going = go (cancels_incoming policy) refl
          where
            go : (i : Bool) → cancels_incoming policy ≡ i → min o.quantity (within side limit (cleared_orders (cancels_resting policy) bs xs)) ≡ n
            go false on = rw (goes-on policy on) (offered-on policy side limit o.quantity xs bs on in_order all)
            go true stops = offered-all policy side limit (cancels_resting policy) o.quantity xs bs (subst (λ b. (b && list_any not bs) ≡ false) stops going) in_order all

        offered-on_way : is_stopped policy bs ≡ true → min (total (allowed bs xs)) (within side limit (cleared_orders (cancels_resting policy) bs xs)) ≡ n
        offered-on_way stopped =
            let both = and-both (cancels_incoming policy) (list_any not bs) stopped in
            let h = offered-stopped policy side limit (cancels_resting policy) o.quantity xs bs both.0 both.1 all in
            omega (arith, h.0, h.1)

        -- of an order that is cancelled on the way something was left
        pub stopped-left : is_stopped policy bs ≡ true → total (allowed bs xs) < o.quantity
        stopped-left stopped =
            let both = and-both (cancels_incoming policy) (list_any not bs) stopped in
            (offered-stopped policy side limit (cancels_resting policy) o.quantity xs bs both.0 both.1 all).0

        -- what is left of it, given how much is left when it was surveyed
        left-behind : (left : ℕ) → left ≡ o.quantity - total (allowed bs xs) → is_stopped policy bs ≡ true → o.quantity - left ≡ total (allowed bs xs)
        left-behind left is stopped = omega (arith, is, stopped-left stopped)

        -- the order is admitted as the survey says
        pub admitted-surveyed : (survey : Survey) → survey.left ≡ o.quantity - total (allowed bs xs) → survey.is_stopped ≡ is_stopped policy bs
            → (if survey.is_stopped then record o { kind = ImmediateOrCancel limit; quantity = o.quantity - survey.left } else o) ≡ admitted policy old o bs
        admitted-surveyed survey left stopped =
            ap (λ b. if b then record o { kind = ImmediateOrCancel limit; quantity = o.quantity - survey.left } else o) stopped ∙ go (is_stopped policy bs) refl
          where
            go : (b : Bool) → is_stopped policy bs ≡ b → (if b then record o { kind = ImmediateOrCancel limit; quantity = o.quantity - survey.left } else o) ≡ admitted_if b
            go true is = ap (λ m. record o { kind = ImmediateOrCancel limit; quantity = m }) (left-behind survey.left left is)
            go false is = refl

        for-if : (stopped : Bool) → is_stopped policy bs ≡ stopped → trades_for c (admitted_if stopped) ≡ n
        for-if true is = traded-by (queue c side) side (cleared_orders (cancels_resting policy) bs xs) limit (total (allowed bs xs)) cleared-side cleared-orders ∙ offered-on_way is
        for-if false is = traded-by (queue c side) side (cleared_orders (cancels_resting policy) bs xs) limit o.quantity cleared-side cleared-orders ∙ offered-unstopped is

        -- what the admitted order trades
        pub for-admitted : trades_for c (admitted policy old o bs) ≡ n
        for-admitted = for-if (is_stopped policy bs) refl

        of-if : (stopped : Bool) → is_stopped policy bs ≡ stopped → trades_of c (admitted_if stopped) ≡ trades_of_first n (cleared_orders (cancels_resting policy) bs xs)
        of-if true is = ap (λ m. trades_of_first m (queue c side).orders) (for-if true is) ∙ ap (trades_of_first n) cleared-orders
        of-if false is = ap (λ m. trades_of_first m (queue c side).orders) (for-if false is) ∙ ap (trades_of_first n) cleared-orders

        pub of-admitted : trades_of c (admitted policy old o bs) ≡ trades_of_first n (allowed bs xs)
        of-admitted = of-if (is_stopped policy bs) refl ∙ trades-allowed policy side limit (cancels_resting policy) (goes-on policy) o.quantity xs bs all

        pub count-admitted : length (trades_of c (admitted policy old o bs)) ≡ length (allowed bs xs)
        count-admitted = ap length of-admitted ∙ count-allowed policy side limit o.quantity xs bs front.sound.some_left all

        -- what is left of it rests, unless it was cancelled
        rest-if : (stopped : Bool) → is_stopped policy bs ≡ stopped
            → rest_of c (admitted_if stopped) ≡ (if stopped then 0 else (if can_rest o.kind then o.quantity - total (allowed bs xs) else 0))
        rest-if true is = refl
        rest-if false is =
            let left : o.quantity - trades_for c o ≡ o.quantity - total (allowed bs xs) = omega (arith, for-if false is) in
            ap (λ m. if can_rest o.kind then m else 0) left

        pub rest-admitted : rest_of c (admitted policy old o bs) ≡ (if is_stopped policy bs then 0 else (if can_rest o.kind then o.quantity - total (allowed bs xs) else 0))
        rest-admitted = rest-if (is_stopped policy bs) refl

        -- an order that may only rest trades nothing, if it may trade with nothing
        quiet-if : (stopped : Bool) → is_stopped policy bs ≡ stopped → (only_rests o.kind ≡ true → total (allowed bs xs) ≡ 0)
            → only_rests (admitted_if stopped).kind ≡ true → trades_for c (admitted_if stopped) ≡ 0
        quiet-if true is quiet only = absurd (cc)
        quiet-if false is quiet only = omega (arith, for-if false is, quiet only)

        pub quiet-admitted : (only_rests o.kind ≡ true → total (allowed bs xs) ≡ 0) → only_rests (admitted policy old o bs).kind ≡ true → trades_for c (admitted policy old o bs) ≡ 0
        quiet-admitted quiet only = quiet-if (is_stopped policy bs) refl quiet only

        -- one that trades as a whole does, if it may trade with as much
        whole-if : (stopped : Bool) → is_stopped policy bs ≡ stopped → (is_whole o.kind ≡ true → o.quantity ≤ total (allowed bs xs))
            → is_whole (admitted_if stopped).kind ≡ true → untraded c (admitted_if stopped) ≡ 0
        whole-if true is whole kind = absurd (cc)
        whole-if false is whole kind = omega (arith, for-if false is, whole kind)

        pub whole-admitted : (is_whole o.kind ≡ true → o.quantity ≤ total (allowed bs xs)) → is_whole (admitted policy old o bs).kind ≡ true → untraded c (admitted policy old o bs) ≡ 0
        whole-admitted whole kind = whole-if (is_stopped policy bs) refl whole kind
