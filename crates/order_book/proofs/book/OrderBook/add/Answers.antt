use Rattle.std.proofs.Common.{◌<◌, ◌∙◌, sym, subst, arith}
use Rattle.order_book.specs.Queue.{Rests}
use Rattle.order_book.specs.Book.{Book, IsBook}
use Rattle.order_book.proofs.Rooms.{granted-of}
use Rattle.order_book.proofs.Crossing.{uncrossed-added_bid, uncrossed-added_ask}
use Rattle.order_book.proofs.book.OrderBook.add.Goals.{in-Buy, in-Sell}
use Rattle.order_book.proofs.book.OrderBook.add.Goals as goal

pub returns-in-Ok-clause-uncrossed : goal.returns-in-Ok-clause-uncrossed
returns-in-Ok-clause-uncrossed g c = λ quiet uncrossed.
    let bids = c.self.inside.bids in
    let asks = c.self.inside.asks in
    let price = c.args.price in
    let quantity = c.args.quantity in
    let tag = c.args.tag in
    let p = c.in-Ok.pointer in
    let lawful : IsBook (record { bids = bids; asks = asks }) = subst (λ (b : Book g.row.T.Denot). IsBook b) (sym c.self.view_is) c.count.ensures.lawful in
    let some : 0 < quantity = omega (arith, c.if-quantity-eq0.false) in
    elim c.match-side.branch [
      | in-Buy w ↦ uncrossed-added_bid bids asks w.put-put.new.self c.args.self.now c.match-side.self c.args.side price quantity tag p c.self.view_is some w.in-Buy.is w.self-is lawful.sells lawful.asks
          (granted-of (λ u. Rests bids price quantity tag u w.put-put.new.self) w.put-put.result p (sym w.put-is ∙ c.in-Ok.is) w.put-put.ensures.ok) quiet uncrossed
      | in-Sell w ↦ uncrossed-added_ask bids asks w.put-put-in-Sell.new.self c.args.self.now c.match-side.self c.args.side price quantity tag p c.self.view_is some w.in-Sell.is w.self-is lawful.buys lawful.bids
          (granted-of (λ u. Rests asks price quantity tag u w.put-put-in-Sell.new.self) w.put-put-in-Sell.result p (sym w.put-is ∙ c.in-Ok.is) w.put-put-in-Sell.ensures.ok) quiet uncrossed
    ]
