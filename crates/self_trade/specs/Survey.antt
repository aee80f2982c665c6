-- What is found out about the orders that an incoming order meets, before anything is changed.
use Rattle.std.specs.Prelude.{◌≡◌, ℕ, ◌+◌, ◌-◌, ◌<◌, Bool, true, false, nat_lt, if◌then◌else◌, List, [], ◌∷◌, ◌++◌, length, Some}
use denote.Param.Members.{Mut}
use Rattle.order_book.specs.PlainArena.{capacity_for}
use Rattle.order_book.specs.{declared.side.Side.Side, declared.order.Order.Order}
use Rattle.order_book.specs.declared.new_order.NewOrder.{NewOrder}
use Rattle.order_book.specs.Queue.{most_entries, total}
use Rattle.order_book.specs.Book.{Book, opposite, queue, named, without, can_rest}
use Rattle.self_trade.specs.declared.policy.SelfTrade.{SelfTrade}
use Rattle.self_trade.specs.declared.survey.Survey.{Survey}
use Rattle.self_trade.specs.Prevention.{is_stopped, allowed, withdrawn, facing, Asks}

-- how much of an order rests after it was surveyed
abbrev pub rest_after : {T : Type 0} → Survey → NewOrder T → ℕ
rest_after survey o = if survey.is_stopped then 0 else (if can_rest o.kind then survey.left else 0)

module _ {T : Type 0} where
  -- each of these orders is named in turn, once those before it were cancelled
  abbrev pub AreNamed : Book T → List (Order T) → Type 0
  AreNamed b [] = Unit {0}
  AreNamed b (x ∷ xs) = (named b x.id ≡ Some x) × AreNamed (without b x.id) xs

  -- The book has the room on a side that a rest needs, and is otherwise as it was. If nothing rests, it is as it was.
  pub record MakesRoom (old new : Book T) (side : Side) (rest : ℕ) : Type 0 where
    pub orders : (queue new side).orders ≡ (queue old side).orders
    pub generation : (queue new side).generation ≡ (queue old side).generation
    pub capacity : (queue new side).capacity
        ≡ (if nat_lt 0 rest then capacity_for most_entries (queue old side).capacity (length (queue old side).orders + 1) else (queue old side).capacity)
    pub other_side : queue new (opposite side) ≡ queue old (opposite side)

  -- what a survey finds out of the orders that are met
  pub record Surveys {F : Type 0} (g : Mut F ((Order T) × Unit {0}) Bool) (f : F) (policy : SelfTrade) (b : Book T) (o : NewOrder T) (spare : ℕ)
      (before : List (Order T)) (survey : Survey) (after : List (Order T)) : Type 0 where
    pub answers : List Bool
    pub asks : Asks g f policy b o answers
    pub left : survey.left ≡ o.quantity - total (allowed answers (facing b o))
    pub count : survey.count ≡ length (allowed answers (facing b o))
    pub stopped : survey.is_stopped ≡ is_stopped policy answers
    pub listed : survey.lacks_room ≡ false → after ≡ before ++ withdrawn policy answers (facing b o)
    pub lacks : survey.lacks_room ≡ true → spare < length (withdrawn policy answers (facing b o))
    pub added : List (Order T)
    pub kept : after ≡ before ++ added
