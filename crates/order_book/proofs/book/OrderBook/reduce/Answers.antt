use Rattle.order_book.proofs.Pairs.{apart-of, pair-bid_reduced, pair-ask_reduced}
use Rattle.order_book.proofs.book.OrderBook.reduce.Goals as goal

pub returns-in-Buy-clause-uncrossed : goal.returns-in-Buy-clause-uncrossed
returns-in-Buy-clause-uncrossed g c = λ uncrossed.
    let bids = c.self.inside.bids in
    let asks = c.self.inside.asks in
    (pair-bid_reduced bids asks (apart-of bids asks c.args.self.now c.self.invariant c.self.view_is uncrossed) c.reduce.new.self c.reduce.result (λ n. n) c.pointer.result
    c.reduce.ensures.after c.reduce.ensures.changes.none).uncrossed

pub returns-in-Sell-clause-uncrossed : goal.returns-in-Sell-clause-uncrossed
returns-in-Sell-clause-uncrossed g c = λ uncrossed.
    let bids = c.self.inside.bids in
    let asks = c.self.inside.asks in
    (pair-ask_reduced bids asks (apart-of bids asks c.args.self.now c.self.invariant c.self.view_is uncrossed) c.reduce-in-Sell.new.self c.reduce-in-Sell.result (λ n. n) c.pointer-in-Sell.result
    c.reduce-in-Sell.ensures.after c.reduce-in-Sell.ensures.changes.none).uncrossed
