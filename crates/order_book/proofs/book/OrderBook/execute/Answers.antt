use Rattle.order_book.proofs.Pairs.{apart-of, pair-bid_reduced, pair-ask_reduced}
use Rattle.order_book.specs.Queue.{order_of, left_of}
use Rattle.order_book.proofs.book.OrderBook.execute.Goals as goal

pub returns-in-Buy-clause-uncrossed : goal.returns-in-Buy-clause-uncrossed
returns-in-Buy-clause-uncrossed g c = λ uncrossed.
    let bids = c.self.inside.bids in
    let asks = c.self.inside.asks in
    (pair-bid_reduced bids asks (apart-of bids asks c.args.self.now c.self.invariant c.self.view_is uncrossed) c.execute.new.self c.execute.result (λ _. left_of (order_of bids.orders c.pointer.result) c.args.quantity) c.pointer.result
    c.execute.ensures.after c.execute.ensures.changes.none).uncrossed

pub returns-in-Sell-clause-uncrossed : goal.returns-in-Sell-clause-uncrossed
returns-in-Sell-clause-uncrossed g c = λ uncrossed.
    let bids = c.self.inside.bids in
    let asks = c.self.inside.asks in
    (pair-ask_reduced bids asks (apart-of bids asks c.args.self.now c.self.invariant c.self.view_is uncrossed) c.execute-in-Sell.new.self c.execute-in-Sell.result (λ _. left_of (order_of asks.orders c.pointer-in-Sell.result) c.args.quantity) c.pointer-in-Sell.result
    c.execute-in-Sell.ensures.after c.execute-in-Sell.ensures.changes.none).uncrossed
