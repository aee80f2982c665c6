use Rattle.std.proofs.Common.{sym, subst, refl}
use Rattle.order_book.specs.Book.{Book, IsBook, IsUncrossed}
use Rattle.order_book.specs.Auction.{IsBestAuction}
use Rattle.order_book.proofs.Uncrossing.{best-found}
use Rattle.order_book.proofs.book.OrderBook.auction.Goals as goal

pub returns-clause-best : goal.returns-clause-best
returns-clause-best g c =
    let b : Book g.row.T.Denot = record { bids = c.self.inside.bids; asks = c.self.inside.asks } in
    let a = c.best_auction.result in
    let of_bids = c.best_auction-of_bids in
    subst (λ (d : Book g.row.T.Denot). IsBestAuction d a) c.self.view_is (best-found b (subst (λ (d : Book g.row.T.Denot). IsBook d) (sym c.self.view_is) c.count.ensures.lawful)
    (record { price = 0; quantity = 0; surplus = 0 }) of_bids.result a
    (λ uncrossed. let no = c.if-not-is_crossed.ensures.1 (subst (λ (d : Book g.row.T.Denot). IsUncrossed d) c.self.view_is uncrossed) in absurd (cc)) refl
    of_bids.ensures.own of_bids.ensures.found c.best_auction.ensures.known c.best_auction.ensures.own c.best_auction.ensures.found)
