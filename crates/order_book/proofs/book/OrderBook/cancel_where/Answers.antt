use Rattle.std.proofs.Common.{refl}
use Rattle.order_book.proofs.Names.{goes-nowhere, step-of}
use Rattle.order_book.proofs.Cancelling.{goes-cancelled}
use Rattle.order_book.proofs.Pairs.{apart-of, apart-bids_cancelled, apart-asks_cancelled}
use Rattle.order_book.proofs.book.OrderBook.cancel_where.Goals as goal

pub returns-in-Buy-clause-step : goal.returns-in-Buy-clause-step
returns-in-Buy-clause-step g c =
    let bids = c.self.inside.bids in
    let asks = c.self.inside.asks in
    step-of bids asks c.remove_where.new.self asks c.args.self.now (record { bids = c.remove_where.new.self; asks = asks }) c.self.view_is refl
    (λ counted. goes-cancelled g.F.FnMut c.args.f bids c.remove_where.new.self c.remove_where.ensures.sound.distinct c.remove_where.ensures.sound.summable.few c.remove_where.ensures.cancels counted)
    (λ counted. goes-nowhere asks asks refl)

pub returns-in-Buy-clause-uncrossed : goal.returns-in-Buy-clause-uncrossed
returns-in-Buy-clause-uncrossed g c = λ uncrossed.
    let bids = c.self.inside.bids in
    let asks = c.self.inside.asks in
    (apart-bids_cancelled g.F.FnMut c.args.f bids asks c.remove_where.new.self (apart-of bids asks c.args.self.now c.self.invariant c.self.view_is uncrossed) c.remove_where.ensures.cancels).uncrossed

pub returns-in-Sell-clause-step : goal.returns-in-Sell-clause-step
returns-in-Sell-clause-step g c =
    let bids = c.self.inside.bids in
    let asks = c.self.inside.asks in
    step-of bids asks bids c.remove_where-in-Sell.new.self c.args.self.now (record { bids = bids; asks = c.remove_where-in-Sell.new.self }) c.self.view_is refl
    (λ counted. goes-nowhere bids bids refl)
    (λ counted. goes-cancelled g.F.FnMut c.args.f asks c.remove_where-in-Sell.new.self c.remove_where-in-Sell.ensures.sound.distinct c.remove_where-in-Sell.ensures.sound.summable.few c.remove_where-in-Sell.ensures.cancels counted)

pub returns-in-Sell-clause-uncrossed : goal.returns-in-Sell-clause-uncrossed
returns-in-Sell-clause-uncrossed g c = λ uncrossed.
    let bids = c.self.inside.bids in
    let asks = c.self.inside.asks in
    (apart-asks_cancelled g.F.FnMut c.args.f bids asks c.remove_where-in-Sell.new.self (apart-of bids asks c.args.self.now c.self.invariant c.self.view_is uncrossed) c.remove_where-in-Sell.ensures.cancels).uncrossed
