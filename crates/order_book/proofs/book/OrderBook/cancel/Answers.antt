use Rattle.order_book.proofs.Pairs.{apart-of, pair-bid_reduced, pair-ask_reduced}
use Rattle.order_book.proofs.book.OrderBook.cancel.Goals as goal

pub returns-in-Buy-clause-uncrossed : goal.returns-in-Buy-clause-uncrossed
returns-in-Buy-clause-uncrossed g c = λ uncrossed.
    let bids = c.self.inside.bids in
    let asks = c.self.inside.asks in
    (pair-bid_reduced bids asks (apart-of bids asks c.args.self.now c.self.invariant c.self.view_is uncrossed) c.remove.new.self c.remove.result (λ _. 0) c.pointer.result
    c.remove.ensures.gone c.remove.ensures.changes.none).uncrossed

pub returns-in-Sell-clause-uncrossed : goal.returns-in-Sell-clause-uncrossed
returns-in-Sell-clause-uncrossed g c = λ uncrossed.
    let bids = c.self.inside.bids in
    let asks = c.self.inside.asks in
    (pair-ask_reduced bids asks (apart-of bids asks c.args.self.now c.self.invariant c.self.view_is uncrossed) c.remove-in-Sell.new.self c.remove-in-Sell.result (λ _. 0) c.pointer-in-Sell.result
    c.remove-in-Sell.ensures.gone c.remove-in-Sell.ensures.changes.none).uncrossed
