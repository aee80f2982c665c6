-- When an order is refused that was surveyed, and what comes of one that is not.
use Rattle.std.proofs.Common.{◌≡◌, ◌≢◌, ◌↔◌, ◌⊎◌, inl, inr, ℕ, ◌+◌, ◌-◌, ◌<◌, ◌≤◌, Bool, true, false, if◌then◌else◌, List, [], ◌∷◌, length, Result, Ok, Err, refl, sym, ap, subst, ◌∙◌, arith}
use Rattle.order_book.specs.{declared.order.Order.Order, declared.order.Trade.Trade}
use Rattle.order_book.specs.declared.side.Side.{Side}
use Rattle.order_book.specs.declared.new_order.NewOrder.{NewOrder}
use Rattle.order_book.specs.declared.error.PlacingError.{PlacingError}
use Rattle.order_book.specs.declared.error.PlacingError.TheVariants.{NoQuantity, WouldTrade, WouldNotFill, BeyondMaxCapacity, AllocError}
use Rattle.order_book.specs.Queue.{most_entries, total}
use Rattle.order_book.specs.Book.{Book, opposite, queue, limit_of, can_rest, only_rests, is_whole, trades_of, rest_of, IsBook, IsFull}
use Rattle.self_trade.specs.declared.policy.SelfTrade.{SelfTrade}
use Rattle.self_trade.specs.declared.survey.Survey.{Survey}
use Rattle.self_trade.specs.Prevention.{is_stopped, AreAnswers, allowed, withdrawn, facing, cleared, admitted, Outcome}
use Rattle.self_trade.specs.Survey.{rest_after}
use Rattle.self_trade.proofs.Admitting.{rest-admitted, count-admitted}

-- an order that is refused for none of the reasons is not refused
pub never-refused : (e : PlacingError) → (e ≡ NoQuantity → ⊥) → (e ≡ WouldTrade → ⊥) → (e ≡ WouldNotFill → ⊥) → (e ≡ BeyondMaxCapacity → ⊥) → (e ≡ AllocError → ⊥) → ⊥
never-refused NoQuantity nothing trade part full memory = nothing refl
never-refused WouldTrade nothing trade part full memory = trade refl
never-refused WouldNotFill nothing trade part full memory = part refl
never-refused BeyondMaxCapacity nothing trade part full memory = full refl
never-refused AllocError nothing trade part full memory = memory refl

-- two results are the same error, or both are none
abbrev pub AreSameError : {X Y E : Type 0} → Result X E → Result Y E → Type 0
AreSameError {X} {Y} {E} r s = (e : E) → (r ≡ Err e) ↔ (s ≡ Err e)

pub same-error : {X Y E : Type 0} (e : E) → AreSameError {X = X} {Y = Y} (Err e) (Err e)
same-error e = λ e'. (λ is. (let same : e ≡ e' = cc in ap Err same), λ is. (let same : e ≡ e' = cc in ap Err same))

pub no-error : {X Y E : Type 0} (x : X) (y : Y) → AreSameError {E = E} (Ok x) (Ok y)
no-error x y = λ e. (λ is. absurd (cc), λ is. absurd (cc))

module _ {T : Type 0} (policy : SelfTrade) (old : Book T) (o : NewOrder T) (bs : List Bool) (lawful : IsBook old) (all : AreAnswers policy (opposite o.side) (limit_of o.side o.kind) o.quantity (facing old o) bs)
    (survey : Survey) (left : survey.left ≡ o.quantity - total (allowed bs (facing old o))) (stopped : survey.is_stopped ≡ is_stopped policy bs) where
  abbrev offered : ℕ
  offered = total (allowed bs (facing old o))

  -- how much rests
  pub rest-survey : rest_after survey o ≡ rest_of (cleared policy old o bs) (admitted policy old o bs)
  rest-survey = ap (λ b. if b then 0 else (if can_rest o.kind then survey.left else 0)) stopped
      ∙ ap (λ n. if is_stopped policy bs then 0 else (if can_rest o.kind then n else 0)) left ∙ sym (rest-admitted policy old o bs lawful old refl all)

  module _ {X Y : Type 0} (r : Result X PlacingError) (s : Result Y PlacingError) (same : AreSameError r s) (some : o.quantity ≢ 0) where
    pub would-trade : (r ≡ Err WouldTrade) ↔ ((only_rests o.kind ≡ true) × (survey.left < o.quantity)) → (s ≡ Err WouldTrade) ↔ ((only_rests o.kind ≡ true) × (0 < offered))
    would-trade h = (
      λ is. (let k = h.0 ((same WouldTrade).1 is) in (k.0, omega (arith, k.1, left))),
      λ k. (same WouldTrade).0 (h.1 (k.0, let more : o.quantity ≢ 0 = some in omega (arith, left, k.1, more))),
    )

    pub would-not_fill : (r ≡ Err WouldNotFill) ↔ ((is_whole o.kind ≡ true) × (0 < survey.left)) → (s ≡ Err WouldNotFill) ↔ ((is_whole o.kind ≡ true) × (offered < o.quantity))
    would-not_fill h = (
      λ is. (let k = h.0 ((same WouldNotFill).1 is) in (k.0, omega (arith, k.1, left))),
      λ k. (same WouldNotFill).0 (h.1 (k.0, omega (arith, left, k.1))),
    )

    abbrev RestsWhereFull : ℕ → Type 0
    RestsWhereFull rest = (0 < rest) × (length (queue old o.side).orders ≡ most_entries)

    pub when-full : (r ≡ Err BeyondMaxCapacity) ↔ ((0 < rest_after survey o) × (length (queue old o.side).orders ≡ most_entries) × (only_rests o.kind ≡ true → o.quantity ≤ survey.left))
        → (s ≡ Err BeyondMaxCapacity) ↔ ((0 < rest_of (cleared policy old o bs) (admitted policy old o bs)) × (length (queue old o.side).orders ≡ most_entries) × (only_rests o.kind ≡ true → offered ≡ 0))
    when-full h = (
      λ is. (let k = h.0 ((same BeyondMaxCapacity).1 is) in
          (subst (λ n. 0 < n) rest-survey k.0, k.1, λ only. (let more : o.quantity ≢ 0 = some in omega (arith, k.2 only, left, more)))),
      λ k. (same BeyondMaxCapacity).0 (h.1 (subst (λ n. 0 < n) (sym rest-survey) k.0, k.1, λ only. omega (arith, k.2 only, left))),
    )

    module _ (capacity held spare : ℕ) (within : held ≤ capacity) (count : survey.count ≡ length (allowed bs (facing old o)))
        (lacks : survey.lacks_room ≡ true → spare < length (withdrawn policy bs (facing old o))) where
      abbrev LacksMemory : Type 0
      LacksMemory = (capacity - held < length (trades_of (cleared policy old o bs) (admitted policy old o bs)))
          ⊎ (spare < length (withdrawn policy bs (facing old o)))
          ⊎ ((0 < rest_of (cleared policy old o bs) (admitted policy old o bs)) × IsFull (queue old o.side) × (length (queue old o.side).orders ≢ most_entries))

      abbrev WasRefused : Type 0
      WasRefused = (capacity < held + survey.count) ⊎ (survey.lacks_room ≡ true)
          ⊎ ((0 < rest_after survey o) × IsFull (queue old o.side) × (length (queue old o.side).orders ≢ most_entries))

      lacking : WasRefused → LacksMemory
      lacking (inl trades) = inl (omega (arith, trades, within, count, count-admitted policy old o bs lawful old refl all))
      lacking (inr (inl list)) = inr (inl (lacks list))
      lacking (inr (inr room)) = inr (inr (subst (λ n. 0 < n) rest-survey room.0, room.1, room.2))

      pub lacks-memory : (r ≡ Err AllocError → WasRefused) → s ≡ Err AllocError → LacksMemory
      lacks-memory h is = lacking (h ((same AllocError).1 is))

-- an order for nothing meets no order, and is refused for that alone
module _ {T : Type 0} where
  pub nothing-asked : (policy : SelfTrade) (side : Side) (limit left : ℕ) (xs : List (Order T)) → left ≡ 0 → AreAnswers policy side limit left xs []
  nothing-asked policy side limit left [] none = refl
  nothing-asked policy side limit left (x ∷ xs) none = inl none

  module _ (policy : SelfTrade) (old : Book T) (o : NewOrder T) (lawful : IsBook old) (none : o.quantity ≡ 0) where
    no-rest : rest_of (cleared policy old o []) (admitted policy old o []) ≡ 0
    no-rest = rest-admitted policy old o [] lawful old refl (nothing-asked policy (opposite o.side) (limit_of o.side o.kind) o.quantity (facing old o) none) ∙ go (is_stopped policy []) (can_rest o.kind)
      where
        go : (b c : Bool) → (if b then 0 else (if c then o.quantity - 0 else 0)) ≡ 0
        go true c = refl
        go false true = omega (arith, none)
        go false false = refl

    pub nothing-placed : (new : Book T) (trades trades' : List (Trade T)) (cancelled cancelled' : List (Order T)) (trades_spare cancelled_spare : ℕ)
        → Outcome policy old o [] (Err NoQuantity) new trades trades' cancelled cancelled' trades_spare cancelled_spare
    nothing-placed new trades trades' cancelled cancelled' trades_spare cancelled_spare = record {
      placed = tt;
      named = tt;
      traded = tt;
      removed = tt;
      would_trade = (λ is. absurd (cc), λ k. absurd (omega (arith, k.1)));
      would_not_fill = (λ is. absurd (cc), λ k. absurd (omega (arith, k.1, none)));
      full = (λ is. absurd (cc), λ k. absurd (omega (arith, k.0, no-rest)));
      memory = λ is. absurd (cc);
    }
