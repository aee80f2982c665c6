-- What comes of an order that was surveyed, once there is room, the orders are cancelled, and it is settled.
use Rattle.std.proofs.Common.{◌+◌, if◌then◌else◌, ◌≡◌, ◌≢◌, ℕ, ◌-◌, ◌<◌, ◌≤◌, min, Bool, true, false, List, [], ◌∷◌, ◌++◌, length, length-append, take, drop, Option, Some, IsSome, IfSome, refl, sym, ap, subst, ◌∙◌, arith}
use Rattle.std.specs.{List.Retain.ReturnsInTurn}
use denote.Param.Members.{Mut}
use Rattle.order_book.specs.{declared.side.Side.TheVariants.Buy, declared.side.Side.TheVariants.Sell, declared.order.Order.Order, declared.order.Trade.Trade, Id.Id}
use Rattle.order_book.specs.declared.side.Side.{Side}
use Rattle.order_book.specs.declared.new_order.{NewOrder.NewOrder}
use Rattle.order_book.specs.Queue.{Queue, resting, total, trades_of_first, order_of, most_entries, HasRoomFor}
use Rattle.order_book.specs.Book.{Book, opposite, queue, named, limit_of, only_rests, is_whole, trades_for, trades_of, untraded, rest_of, IsBook, Places, RestsOrNot}
use Rattle.order_book.specs.Names.{IsStep}
use Rattle.self_trade.specs.declared.policy.SelfTrade.{SelfTrade}
use Rattle.self_trade.specs.declared.survey.Survey.{Survey}
use Rattle.self_trade.specs.Prevention.{cancels_resting, is_stopped, AreAnswers, allowed, refused, withdrawn, without_all, facing, cleared, admitted, appended, Answers, AllowsOnly, ArePassing}
use Rattle.self_trade.specs.Survey.{MakesRoom, rest_after}
use Rattle.self_trade.proofs.Asking.{cleared_orders, allowed-passing, trades-passing}
use Rattle.self_trade.proofs.Admitting.{admitted_if, of-admitted, count-admitted, rest-admitted, quiet-admitted, whole-admitted, own-cleared, facing-cleared, cleared-orders, facing-side}
use Rattle.self_trade.proofs.Clearing.{cleared-none, left_all}
use Rattle.self_trade.proofs.Going.{cleared-there, cleared-count, goes-cleared, goes-like, step-of, step-by, placed-generation}
use Rattle.self_trade.proofs.Rooming.{places-unroomy, rests-unroomy}
use Rattle.self_trade.proofs.Refusing.{rest-survey}

-- a list behind its front
module _ {X : Type 0} where
  take-whole : (xs : List X) → take (length xs) xs ≡ xs
  take-whole [] = refl
  take-whole (x ∷ xs) = ap (λ ys. x ∷ ys) (take-whole xs)

  pub drop-front : (front back : List X) → drop (length front) (front ++ back) ≡ back
  drop-front [] back = refl
  drop-front (x ∷ front) back = drop-front front back

  pub slice-behind : (front back xs : List X) (n : ℕ) → xs ≡ front ++ back → n ≡ length front → take (length xs - n) (drop n xs) ≡ back
  slice-behind front back xs n is at =
      let behind : drop n xs ≡ back = ap (λ m. drop m xs) at ∙ ap (drop (length front)) is ∙ drop-front front back in
      let size : length xs - n ≡ length back = omega (arith, ap length is, length-append front back, at) in
      ap (λ m. take m (drop n xs)) size ∙ ap (take (length back)) behind ∙ take-whole back

  pub appended-front : (front back xs : List X) → xs ≡ front ++ back → appended front xs ≡ back
  appended-front front back xs is = ap (drop (length front)) is ∙ drop-front front back

module _ {T : Type 0} where
  -- room changes no order
  room-orders : (old book : Book T) (side s : Side) (rest : ℕ) → MakesRoom old book side rest → (queue book s).orders ≡ (queue old s).orders
  room-orders old book Buy Buy rest makes = makes.orders
  room-orders old book Buy Sell rest makes = ap (λ (q : Queue T). q.orders) makes.other_side
  room-orders old book Sell Buy rest makes = ap (λ (q : Queue T). q.orders) makes.other_side
  room-orders old book Sell Sell rest makes = makes.orders

  pub room-named : (old book : Book T) (side : Side) (rest : ℕ) → MakesRoom old book side rest → (id : Id) → named book id ≡ named old id
  room-named old book side rest makes id = ap (λ xs. order_of xs id.pointer) (room-orders old book side id.side rest makes)

  module _ (policy : SelfTrade) (old : Book T) (o : NewOrder T) (bs : List Bool) (lawful : IsBook old) (all : AreAnswers policy (opposite o.side) (limit_of o.side o.kind) o.quantity (facing old o) bs)
      (survey : Survey) (left : survey.left ≡ o.quantity - total (allowed bs (facing old o))) (stopped : survey.is_stopped ≡ is_stopped policy bs)
      (roomy : Book T) (makes : MakesRoom old roomy o.side (rest_after survey o)) (still : IsBook roomy)
      (book : Book T) (after : book ≡ without_all roomy (withdrawn policy bs (facing old o))) (e : NewOrder T) (e_is : e ≡ admitted policy old o bs) where
    abbrev gone : List (Order T)
    gone = withdrawn policy bs (facing old o)

    -- what the order does is the same in the book with more room
    to-settle : (P : Book T → NewOrder T → Type 0) → P (without_all roomy gone) (admitted policy old o bs) → P book e
    to-settle P h = subst (λ b. P b e) (sym after) (subst (λ x. P (without_all roomy gone) x) (sym e_is) h)

    settled : (P : Book T → NewOrder T → Type 0) → P book e → P (without_all roomy gone) (admitted policy old o bs)
    settled P h = subst (λ x. P (without_all roomy gone) x) e_is (subst (λ b. P b e) after h)

    pub settles-quiet : o.quantity ≢ 0 → (only_rests o.kind ≡ true → o.quantity ≤ survey.left) → only_rests e.kind ≡ true → trades_for book e ≡ 0
    settles-quiet some quiet = to-settle (λ b x. only_rests x.kind ≡ true → trades_for b x ≡ 0)
        (quiet-admitted policy old o bs lawful roomy makes.other_side all (λ only. (let more : o.quantity ≢ 0 = some in omega (arith, quiet only, left, more))))

    pub settles-whole : (is_whole o.kind ≡ true → survey.left ≡ 0) → is_whole e.kind ≡ true → untraded book e ≡ 0
    settles-whole whole = to-settle (λ b x. is_whole x.kind ≡ true → untraded b x ≡ 0)
        (whole-admitted policy old o bs lawful roomy makes.other_side all (λ kind. omega (arith, whole kind, left)))

    rest-roomy : rest_of (without_all roomy gone) (admitted policy old o bs) ≡ rest_after survey o
    rest-roomy = rest-admitted policy old o bs lawful roomy makes.other_side all ∙ sym (rest-admitted policy old o bs lawful old refl all) ∙ sym (rest-survey policy old o bs lawful all survey left stopped)

    admitted-side : (admitted policy old o bs).side ≡ o.side
    admitted-side = go (is_stopped policy bs)
      where
        go : (b : Bool) → (admitted_if policy old o bs lawful roomy makes.other_side all b).side ≡ o.side
        go true = refl
        go false = refl

    pub settles-room : (0 < rest_after survey o → HasRoomFor 1 (queue roomy o.side)) → 0 < rest_of book e → HasRoomFor 1 (queue book e.side)
    settles-room room = to-settle (λ b x. 0 < rest_of b x → HasRoomFor 1 (queue b x.side)) (λ rests.
        subst (λ s. HasRoomFor 1 (queue (without_all roomy gone) s)) (sym admitted-side)
        (subst (HasRoomFor 1) (sym (own-cleared policy old o bs lawful roomy makes.other_side)) (room (subst (λ n. 0 < n) rest-roomy rests))))

    pub settles-count : length (trades_of book e) ≡ length (allowed bs (facing old o))
    settles-count = to-settle (λ b x. length (trades_of b x) ≡ length (allowed bs (facing old o))) (count-admitted policy old o bs lawful roomy makes.other_side all)

    -- its trades
    abbrev n : ℕ
    n = min o.quantity (total (allowed bs (facing old o)))

    pub settles-trades : trades_of book e ≡ trades_of_first n (allowed bs (facing old o))
    settles-trades = to-settle (λ b x. trades_of b x ≡ trades_of_first n (allowed bs (facing old o))) (of-admitted policy old o bs lawful roomy makes.other_side all)

    pub traded-cleared : trades_of book e ≡ trades_of (cleared policy old o bs) (admitted policy old o bs)
    traded-cleared = settles-trades ∙ sym (of-admitted policy old o bs lawful old refl all)

    -- how it is placed
    same-facing : queue (without_all roomy gone) (opposite o.side) ≡ queue (cleared policy old o bs) (opposite o.side)
    same-facing = facing-cleared policy old o bs lawful roomy makes.other_side ∙ sym (facing-cleared policy old o bs lawful old refl)

    same-rests : (price : ℕ) (tag : T) (id : Option Id) (new : Queue T) (rest : ℕ) → rest ≡ rest_after survey o
        → RestsOrNot (queue (without_all roomy gone) o.side) price rest tag id new → RestsOrNot (queue (cleared policy old o bs) o.side) price rest tag id new
    same-rests price tag id new rest is h =
        subst (λ q. RestsOrNot q price rest tag id new) (sym (own-cleared policy old o bs lawful old refl))
        (rests-unroomy old roomy o.side rest (subst (MakesRoom old roomy o.side) (sym is) makes) lawful still price tag id new
        (subst (λ q. RestsOrNot q price rest tag id new) (own-cleared policy old o bs lawful roomy makes.other_side) h))

    rest-cleared : (b : Bool) → is_stopped policy bs ≡ b → rest_of (cleared policy old o bs) (admitted_if policy old o bs lawful roomy makes.other_side all b) ≡ rest_after survey o
    rest-cleared b is = subst (λ c. rest_of (cleared policy old o bs) (admitted_if policy old o bs lawful roomy makes.other_side all c) ≡ rest_after survey o) is
        (sym (rest-survey policy old o bs lawful all survey left stopped))

    placed-if : (b : Bool) → is_stopped policy bs ≡ b → (id : Option Id) (new : Book T)
        → Places (without_all roomy gone) (admitted_if policy old o bs lawful roomy makes.other_side all b) id new
        → Places (cleared policy old o bs) (admitted_if policy old o bs lawful roomy makes.other_side all b) id new
    placed-if true is id new h = places-unroomy (cleared policy old o bs) (without_all roomy gone) (admitted_if policy old o bs lawful roomy makes.other_side all true) id new same-facing
        (same-rests (limit_of o.side o.kind) o.tag id (queue new o.side) (rest_of (cleared policy old o bs) (admitted_if policy old o bs lawful roomy makes.other_side all true)) (rest-cleared true is)) h
    placed-if false is id new h = places-unroomy (cleared policy old o bs) (without_all roomy gone) o id new same-facing
        (same-rests (limit_of o.side o.kind) o.tag id (queue new o.side) (rest_of (cleared policy old o bs) o) (rest-cleared false is)) h

    pub settles-placed : (id : Option Id) (new : Book T) → Places book e id new → Places (cleared policy old o bs) (admitted policy old o bs) id new
    settles-placed id new h = placed-if (is_stopped policy bs) refl id new (settled (λ b x. Places b x id new) h)

    -- how what rests is named
    abbrev IsNamedBy : Book T → Option Id → ℕ → NewOrder T → Type 0
    IsNamedBy new id rest x = IfSome id (λ i. named new i ≡ Some (resting x.side i.pointer (limit_of x.side x.kind) rest x.tag))

    named-if : (b : Bool) (new : Book T) (id : Option Id) (rest : ℕ) → IsNamedBy new id rest (admitted_if policy old o bs lawful roomy makes.other_side all b) → IsNamedBy new id rest o
    named-if true new id rest h = h
    named-if false new id rest h = h

    pub settles-named : (id : Option Id) (new : Book T) → IsNamedBy new id (rest_of book e) e → IsNamedBy new id (rest_of (cleared policy old o bs) (admitted policy old o bs)) o
    settles-named id new h = named-if (is_stopped policy bs) new id (rest_of (cleared policy old o bs) (admitted policy old o bs))
        (subst (λ m. IsNamedBy new id m (admitted policy old o bs)) (rest-roomy ∙ rest-survey policy old o bs lawful all survey left stopped)
        (settled (λ b x. IsNamedBy new id (rest_of b x) x) h))

    -- each trade passes a test that the closure allows only
    pub settles-passing : {F : Type 0} (g : Mut F ((Order T) × Unit {0}) Bool) (f last : F) (test : Trade T → Bool) (before trades : List (Trade T)) → AllowsOnly g f test
        → ReturnsInTurn (Answers g) f bs (facing old o) last → trades ≡ before ++ trades_of book e → ArePassing test (appended before trades)
    settles-passing g f last test before trades only asked is =
        subst (ArePassing test) (sym (appended-front before (trades_of book e) trades is ∙ settles-trades)) (trades-passing g test n (allowed bs (facing old o)) (allowed-passing g test f last (facing old o) bs only asked))

    -- what becomes of names
    book-own : queue book o.side ≡ queue roomy o.side
    book-own = ap (λ b. queue b o.side) after ∙ own-cleared policy old o bs lawful roomy makes.other_side

    book-other : queue book (opposite o.side) ≡ left_all (queue old (opposite o.side)) gone
    book-other = ap (λ b. queue b (opposite o.side)) after ∙ facing-cleared policy old o bs lawful roomy makes.other_side

    book-orders : (queue book (opposite o.side)).orders ≡ cleared_orders (cancels_resting policy) bs (facing old o)
    book-orders = ap (λ b. (queue b (opposite o.side)).orders) after ∙ cleared-orders policy old o bs lawful roomy makes.other_side

    few-orders : length (queue book (opposite o.side)).orders + length gone ≤ most_entries
    few-orders = go (cancels_resting policy) (ap length book-orders)
      where
        few : length (facing old o) ≤ most_entries
        few = (facing-side old (opposite o.side) lawful).sound.summable.few

        go : (c : Bool) → length (queue book (opposite o.side)).orders ≡ length (cleared_orders c bs (facing old o))
            → length (queue book (opposite o.side)).orders + length (if c then refused bs (facing old o) else []) ≤ most_entries
        go true is = omega (arith, is, cleared-count bs (facing old o), few)
        go false is = omega (arith, is, ap length (cleared-none bs (facing old o)), few)

    orders-there : (p : ℕ × ℕ) → IsSome (order_of (queue book (opposite o.side)).orders p) → IsSome (order_of (facing old o) p)
    orders-there p there = go (cancels_resting policy) (subst (λ xs. IsSome (order_of xs p)) book-orders there)
      where
        go : (c : Bool) → IsSome (order_of (cleared_orders c bs (facing old o)) p) → IsSome (order_of (facing old o) p)
        go true there = cleared-there bs (facing old o) p there
        go false there = subst (λ xs. IsSome (order_of xs p)) (cleared-none bs (facing old o)) there

    pub settles-step : (id : Option Id) (new : Book T) → Places book e id new → IsStep book new → IsStep old new
    settles-step id new placed step =
        let side : e.side ≡ o.side = ap (λ x. x.side) e_is ∙ admitted-side in
        step-by old new o.side
        (goes-like (queue book o.side) (queue old o.side) (queue new o.side) (ap (λ (q : Queue T). q.orders) book-own ∙ makes.orders) (ap (λ (q : Queue T). q.generation) book-own ∙ makes.generation)
        (step-of book new step o.side))
        (goes-cleared (queue old (opposite o.side)) (queue book (opposite o.side)) (queue new (opposite o.side)) gone few-orders book-other orders-there (trades_for book e)
        (placed-generation book e id new o.side side placed) (step-of book new step (opposite o.side)))
