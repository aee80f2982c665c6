-- What an incoming order does that may not trade with some of the orders that it meets.
use Rattle.std.specs.Prelude.{◌≡◌, ◌≢◌, ◌↔◌, ◌⊎◌, ℕ, ◌-◌, ◌<◌, Bool, true, false, not, ◌&&◌, nat_lt, if◌then◌else◌, List, [], ◌∷◌, ◌++◌, length, map, drop, Option, Some, Result, Err, IfOk, OnOk, IfSome}
use Rattle.std.specs.{Bool.MatchBool, List.items_where_true, List.list_any, List.Retain.ReturnsInTurn, List.AllByRecursion, Fn.Called}
use denote.Param.Members.{Mut}
use Rattle.order_book.specs.{Id.Id, declared.side.Side.Side, declared.order.Order.Order, declared.order.Trade.Trade}
use Rattle.order_book.specs.declared.new_order.{NewOrder.NewOrder, OrderKind.TheVariants.ImmediateOrCancel}
use Rattle.order_book.specs.declared.error.PlacingError.{PlacingError}
use Rattle.order_book.specs.declared.error.PlacingError.TheVariants.{WouldTrade, WouldNotFill, BeyondMaxCapacity, AllocError}
use Rattle.order_book.specs.Queue.{meets, most_entries, resting, total, trade_with}
use Rattle.order_book.specs.Book.{Book, opposite, queue, named, without, limit_of, only_rests, is_whole, trades_of, rest_of, Places, IsFull}
use Rattle.self_trade.specs.declared.policy.SelfTrade.{SelfTrade}
use Rattle.self_trade.specs.declared.policy.SelfTrade.TheVariants.{CancelResting, CancelIncoming, CancelBoth}

-- whether a resting order is cancelled with which the incoming one may not trade; and whether the incoming one is
abbrev pub cancels_resting : SelfTrade → Bool
cancels_resting CancelResting = true
cancels_resting CancelIncoming = false
cancels_resting CancelBoth = true

abbrev pub cancels_incoming : SelfTrade → Bool
cancels_incoming CancelResting = false
cancels_incoming CancelIncoming = true
cancels_incoming CancelBoth = true

-- whether the incoming order is cancelled, given the answers whether it may trade with the orders that it meets
abbrev pub is_stopped : SelfTrade → List Bool → Bool
is_stopped policy answers = cancels_incoming policy && list_any not answers

module _ {T : Type 0} where
  -- An order of which so much is left meets a resting order of this side: something is left, and the price is within its limit.
  abbrev pub IsMet : Side → ℕ → ℕ → Order T → Type 0
  IsMet side limit left x = (0 < left) × (meets side x.price limit ≡ true)

  -- it does not meet it: nothing is left, or the price is beyond its limit
  abbrev pub IsBeyond : Side → ℕ → ℕ → Order T → Type 0
  IsBeyond side limit left x = (left ≡ 0) ⊎ (meets side x.price limit ≡ false)

  -- These are the answers for the orders that an order meets of which so much is left, and for no other. Where the answer is `true`, it
  -- trades, and less of it is left. Where it is `false`, the resting order is passed over, or the incoming one meets no more.
  abbrev pub AreAnswers : SelfTrade → Side → ℕ → ℕ → List (Order T) → List Bool → Type 0
  AreAnswers policy side limit left [] answers = answers ≡ []
  AreAnswers policy side limit left (x ∷ xs) [] = IsBeyond side limit left x
  AreAnswers policy side limit left (x ∷ xs) (true ∷ answers) = IsMet side limit left x × AreAnswers policy side limit (left - x.quantity) xs answers
  AreAnswers policy side limit left (x ∷ xs) (false ∷ answers) =
      IsMet side limit left x × MatchBool (cancels_incoming policy) (answers ≡ []) (AreAnswers policy side limit left xs answers)

  -- the answers that a test gives for the orders that are met
  abbrev pub answers_by : (Order T → Bool) → SelfTrade → Side → ℕ → ℕ → List (Order T) → List Bool
  answers_by allows policy side limit left [] = []
  answers_by allows policy side limit left (x ∷ xs) =
      if nat_lt 0 left && meets side x.price limit then
      (if allows x then true ∷ answers_by allows policy side limit (left - x.quantity) xs
      else (false ∷ (if cancels_incoming policy then [] else answers_by allows policy side limit left xs)))
      else []

  -- of the orders that were asked about, those with which the incoming order may trade, and those with which it may not
  abbrev pub allowed : List Bool → List (Order T) → List (Order T)
  allowed answers xs = items_where_true answers xs

  abbrev pub refused : List Bool → List (Order T) → List (Order T)
  refused answers xs = items_where_true (map not answers) xs

  -- those that are cancelled
  abbrev pub withdrawn : SelfTrade → List Bool → List (Order T) → List (Order T)
  withdrawn policy answers xs = if cancels_resting policy then refused answers xs else []

  -- the book once these orders were cancelled, one after another
  abbrev pub without_all : Book T → List (Order T) → Book T
  without_all b [] = b
  without_all b (x ∷ xs) = without_all (without b x.id) xs

  -- the orders that an incoming order may meet in a book
  abbrev pub facing : Book T → NewOrder T → List (Order T)
  facing b o = (queue b (opposite o.side)).orders

  -- the book that an order trades with, and rests in: without the orders that are cancelled
  abbrev pub cleared : SelfTrade → Book T → NewOrder T → List Bool → Book T
  cleared policy b o answers = without_all b (withdrawn policy answers (facing b o))

  -- The order as it is placed: as it came; or if it is cancelled on the way, as an order that trades at once what it could before.
  abbrev pub admitted : SelfTrade → Book T → NewOrder T → List Bool → NewOrder T
  admitted policy b o answers =
      if is_stopped policy answers then record o { kind = ImmediateOrCancel (limit_of o.side o.kind); quantity = total (allowed answers (facing b o)) } else o

  -- What comes of an order, given the answers: it is placed in the book without the orders that are cancelled, or refused. The lists are
  -- the trades and the cancelled orders before and after, and how many more each holds without growing.
  pub record Outcome (policy : SelfTrade) (old : Book T) (o : NewOrder T) (answers : List Bool) (result : Result (Option Id) PlacingError) (new : Book T)
      (trades trades' : List (Trade T)) (cancelled cancelled' : List (Order T)) (trades_spare cancelled_spare : ℕ) : Type 0 where
    pub placed : IfOk result (λ id. Places (cleared policy old o answers) (admitted policy old o answers) id new)
    pub named : IfOk result (λ id. IfSome id (λ i. named new i
        ≡ Some (resting o.side i.pointer (limit_of o.side o.kind) (rest_of (cleared policy old o answers) (admitted policy old o answers)) o.tag)))
    pub traded : OnOk result (trades' ≡ trades ++ trades_of (cleared policy old o answers) (admitted policy old o answers))
    pub removed : OnOk result (cancelled' ≡ cancelled ++ withdrawn policy answers (facing old o))
    pub would_trade : (result ≡ Err WouldTrade) ↔ ((only_rests o.kind ≡ true) × (0 < total (allowed answers (facing old o))))
    pub would_not_fill : (result ≡ Err WouldNotFill) ↔ ((is_whole o.kind ≡ true) × (total (allowed answers (facing old o)) < o.quantity))
    pub full : (result ≡ Err BeyondMaxCapacity)
        ↔ ((0 < rest_of (cleared policy old o answers) (admitted policy old o answers)) × (length (queue old o.side).orders ≡ most_entries)
        × (only_rests o.kind ≡ true → total (allowed answers (facing old o)) ≡ 0))
    pub memory : result ≡ Err AllocError → (trades_spare < length (trades_of (cleared policy old o answers) (admitted policy old o answers)))
        ⊎ (cancelled_spare < length (withdrawn policy answers (facing old o)))
        ⊎ ((0 < rest_of (cleared policy old o answers) (admitted policy old o answers)) × IsFull (queue old o.side)
        × (length (queue old o.side).orders ≢ most_entries))

  -- each of these trades passes a test
  abbrev pub ArePassing : (Trade T → Bool) → List (Trade T) → Type 0
  ArePassing test trades = AllByRecursion (λ (t : Trade T). test t ≡ true) trades

  -- each of these orders passes a test
  abbrev pub AreTested : (Order T → Bool) → List (Order T) → Type 0
  AreTested test orders = AllByRecursion (λ (x : Order T). test x ≡ true) orders

  -- none of these orders has this name
  abbrev pub IsNoneOf : Id → List (Order T) → Type 0
  IsNoneOf id xs = AllByRecursion (λ (x : Order T). x.id ≢ id) xs

  module _ {F : Type 0} (g : Mut F ((Order T) × Unit {0}) Bool) where
    -- a call of the closure for an order may give this answer, and leave it in the state f'
    abbrev pub Answers : F → Order T → Bool → F → Type 0
    Answers f x answer f' = Called g f (x, tt) answer f'

    -- The closure was called for each order that is met, once, the one that trades first first, and these were its answers.
    pub record Asks (f : F) (policy : SelfTrade) (b : Book T) (o : NewOrder T) (answers : List Bool) : Type 0 where
      pub last : F
      pub asked : ReturnsInTurn Answers f answers (facing b o) last
      pub all : AreAnswers policy (opposite o.side) (limit_of o.side o.kind) o.quantity (facing b o) answers

    -- each call answers what a test says, and leaves the closure as it was
    abbrev pub IsTest : F → (Order T → Bool) → Type 0
    IsTest f allows = (x : Order T) (answer : Bool) (f' : F) → Answers f x answer f' → (answer ≡ allows x) × (f' ≡ f)

    -- Each call leaves the closure as it was, and where it answers `true`, every trade with the order passes a test.
    abbrev pub AllowsOnly : F → (Trade T → Bool) → Type 0
    AllowsOnly f test = (x : Order T) (n : ℕ) (answer : Bool) (f' : F) → Answers f x answer f' → (answer ≡ true → test (trade_with x n) ≡ true) × (f' ≡ f)

    -- Each call leaves the closure as it was, and where it answers `false`, the order passes a test.
    abbrev pub RefusesOnly : F → (Order T → Bool) → Type 0
    RefusesOnly f test = (x : Order T) (answer : Bool) (f' : F) → Answers f x answer f' → (answer ≡ false → test x ≡ true) × (f' ≡ f)

-- what was appended to a list
abbrev pub appended : {X : Type 0} → List X → List X → List X
appended old new = drop (length old) new
