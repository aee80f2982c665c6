-- How a book is made of two queues (layout), and what an order does to them.
use Rattle.std.specs.Prelude.{◌≡◌, ◌+◌, ◌++◌, ℕ, List, Option, Some, Result, IfOk, OnOk, OnErr, IfSome}
use Rattle.order_book.specs.{declared.side.Side.TheVariants.Buy, declared.side.Side.TheVariants.Sell, declared.order.Trade.Trade, Id.Id}
use Rattle.order_book.specs.Queue.{Queue, order_of, resting, taken, total, volume}
use Rattle.order_book.specs.Book.{IsUntraded, AreWithin, limit_of, dealt, deals, undealt, remainder}
use Rattle.order_book.specs.declared.new_order.NewOrder.{NewOrder}

module _ {T : Type 0} where
  -- bids and asks are what they are called
  pub record IsPairOfQueues (bids asks : Queue T) : Type 0 where
    pub buys : bids.side ≡ Buy
    pub sells : asks.side ≡ Sell

  -- A call that settles an order: it trades with the other side, its trades are appended to a list, and what comes to rest is named on its
  -- own side. If the call fails, both sides and the list stay as they are.
  pub record Settles {E : Type 0} (own other : Queue T) (order : NewOrder T) (before : List (Trade T))
      (result : Result (Option Id) E) (new_own new_other : Queue T) (after : List (Trade T)) : Type 0 where
    pub names : IfOk result (λ id. IfSome id (λ i. order_of new_own.orders i.pointer
        ≡ Some (resting own.side i.pointer (limit_of order.side order.kind) (remainder other order) order.tag)))
    pub taken : OnOk result (new_other ≡ taken (dealt other order) other)
    pub trades : OnOk result (after ≡ before ++ deals other order)
    pub bought : OnOk result (volume (deals other order) + undealt other order ≡ order.quantity)
    pub sold : OnOk result (total new_other.orders + volume (deals other order) ≡ total other.orders)
    pub others : OnOk result ((p : ℕ × ℕ) → IsUntraded (record { side = other.side; pointer = p }) (deals other order)
        → order_of new_other.orders p ≡ order_of other.orders p)
    pub limited : OnOk result (AreWithin other.side (limit_of order.side order.kind) (deals other order))
    pub own_kept : OnErr result (new_own ≡ own)
    pub other_kept : OnErr result (new_other ≡ other)
    pub trades_kept : OnErr result (after ≡ before)
