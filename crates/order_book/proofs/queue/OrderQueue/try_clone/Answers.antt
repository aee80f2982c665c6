use Rattle.std.proofs.Common.{◌∙◌, ap}
use Rattle.order_book.specs.{Queue.Queue, Ladder.row_of, Ladder.rows_of}
use Rattle.order_book.proofs.Naming.{no-orders}
use Rattle.order_book.proofs.Cloning.{cloned-queue}
use Rattle.order_book.proofs.queue.OrderQueue.try_clone.Goals as goal

pub returns-clause-ok : goal.returns-clause-ok
returns-clause-ok g c =
    rw (← c.self.view_is) (cloned-queue c.self.inside.side (rows_of c.self.inside.ladder.orders) (rows_of c.in_ok-try_clone.field-0.orders) c.in_ok-try_clone.ensures.ok)

pub returns-in_err-try_clone-clause-none : goal.returns-in_err-try_clone-clause-none
returns-in_err-try_clone-clause-none g c = λ empty.
    absurd (let granted = c.in_err-try_clone.ensures.none (no-orders c.self.inside.side row_of c.self.inside.ladder.orders.entries (ap (λ (q : Queue g.row.T.Denot). q.orders) c.self.view_is ∙ empty)) in cc)
