-- What becomes of names along the calls of a book: one that has ended names no order again, unless the generations of its side begin again.
use Rattle.std.specs.Prelude.{◌≡◌, ◌⊎◌, ℕ, ◌<◌, ◌≤◌, List, [], ◌∷◌, Option, None, IsSome, IfNone, Result, OnErr}
use Rattle.order_book.specs.Queue.{Queue, order_of}
use Rattle.order_book.specs.{Id.Id, declared.order.Order.Order, declared.order.Trade.Trade}
use Rattle.order_book.specs.Book.{Book, queue, named, Updates}

module _ {T : Type 0} where
  -- How names go on from one moment of a side to a later one: what a pointer names now, it named before, or its generation is one from the
  -- side's old one to its new one; and if a pointer has come to name nothing, the generation has risen.
  pub record GoesOn (old new : Queue T) : Type 0 where
    pub known : (p : ℕ × ℕ) → IsSome (order_of new.orders p) → IsSome (order_of old.orders p) ⊎ ((old.generation ≤ p.1) × (p.1 ≤ new.generation))
    pub ended : (p : ℕ × ℕ) → IsSome (order_of old.orders p) → order_of new.orders p ≡ None → old.generation < new.generation

  -- The generations of neither side begin again.
  pub record Counts (old new : Book T) : Type 0 where
    pub bids : old.bids.generation ≤ new.bids.generation
    pub asks : old.asks.generation ≤ new.asks.generation

  -- what one call does to the names of a book, as far as generations don't begin again
  pub record IsStep (old new : Book T) : Type 0 where
    pub bids : old.bids.generation ≤ new.bids.generation → GoesOn old.bids new.bids
    pub asks : old.asks.generation ≤ new.asks.generation → GoesOn old.asks new.asks

  -- A call that changes the order of a name, or removes it: the name names `found` afterwards. If it names no order, nothing changes.
  pub record ChangesOrder {X : Type 0} (old : Book T) (id : Id) (found : Option (Order T)) (result : Option X) (new : Book T) : Type 0 where
    pub updates : Updates old new id found
    pub step : IsStep old new
    pub none : IfNone result (new ≡ old)

  -- A call that may let an order in, and appends its trades to a list. If it refuses the order, book and list stay as they are.
  pub record StepsOrRefuses {X E : Type 0} (old : Book T) (before : List (Trade T)) (result : Result X E) (new : Book T)
      (after : List (Trade T)) : Type 0 where
    pub step : IsStep old new
    pub err : OnErr result (new ≡ old)
    pub kept : OnErr result (after ≡ before)

  -- A run of calls: each book comes from the one before it by a call that doesn't make generations begin again.
  abbrev pub IsRun : Book T → List (Book T) → Book T → Type 0
  IsRun old [] new = new ≡ old
  IsRun old (next ∷ rest) new = IsStep old next × Counts old next × IsRun next rest new

  -- No name has a generation above its side's. A new book has none, and none comes until generations begin again.
  abbrev pub HasNoLaterName : Book T → Type 0
  HasNoLaterName b = (id : Id) → IsSome (named b id) → id.pointer.1 ≤ (queue b id.side).generation

  -- a name has ended: it names no order, and its generation has passed
  pub record HasEnded (b : Book T) (id : Id) : Type 0 where
    pub nothing : named b id ≡ None
    pub passed : id.pointer.1 < (queue b id.side).generation

  -- From old to new, each name that had ended stays so; and if `old` has no later name, `new` has none, and each name that named an order
  -- and names none has ended.
  pub record KeepsEnded (old new : Book T) : Type 0 where
    pub ended : (id : Id) → HasEnded old id → HasEnded new id
    pub no_later : HasNoLaterName old → HasNoLaterName new
    pub ends : (id : Id) → HasNoLaterName old → IsSome (named old id) → named new id ≡ None → HasEnded new id

-- Names that have ended stay so, along a run of calls that don't make generations begin again; and the same of one such call.
pub record EndedNameLaw (T : Type 0) : Type 0 where
  pub run : (old new : Book T) (between : List (Book T)) → IsRun old between new → KeepsEnded old new
  pub ended : (old new : Book T) (id : Id) → IsStep old new → Counts old new → HasEnded old id → HasEnded new id
  pub no_later : (old new : Book T) → IsStep old new → Counts old new → HasNoLaterName old → HasNoLaterName new
  pub ends : (old new : Book T) (id : Id) → IsStep old new → Counts old new → HasNoLaterName old → IsSome (named old id) → named new id ≡ None
      → HasEnded new id
