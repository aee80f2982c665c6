use Rattle.std.proofs.Common.{◌∙◌, ap}
use Rattle.order_book.specs.Book.{Book}
use Rattle.order_book.proofs.book.OrderBook.try_clone.Goals as goal

pub returns-in_err-try_clone-2-clause-none : goal.returns-in_err-try_clone-2-clause-none
returns-in_err-try_clone-2-clause-none g c = λ bids asks.
    absurd (let granted = c.in_err-try_clone-2.ensures.none (ap (λ (b : Book g.row.T.Denot). b.asks.orders) c.self.view_is ∙ asks) in cc)
