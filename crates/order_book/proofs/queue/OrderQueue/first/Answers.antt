use Rattle.std.proofs.Common.{◌∙◌, sym}
use Rattle.order_book.proofs.Naming.{first-none, first-some, first-lost}
use Rattle.order_book.specs.Ladder.{rows_of}
use Rattle.order_book.proofs.queue.OrderQueue.first.Goals as goal

pub returns-in_err-pointer-clause-value : goal.returns-in_err-pointer-clause-value
returns-in_err-pointer-clause-value g c =
    rw (← c.self.view_is) (c.from_residual.ensures ∙ sym (first-none c.self.inside.side (rows_of c.self.inside.ladder.orders).entries c.in_err-pointer.ensures))

pub returns-in_err-rank-clause-value : goal.returns-in_err-rank-clause-value
returns-in_err-rank-clause-value g c = absurd (first-lost (rows_of c.self.inside.ladder.orders).entries c.in_ok-pointer.pointer c.in_ok-pointer.ensures c.in_err-rank.ensures)

pub returns-clause-value : goal.returns-clause-value
returns-clause-value g c =
    rw (← c.self.view_is, c.order_at.ensures)
    (sym (first-some c.self.inside.side (rows_of c.self.inside.ladder.orders).entries c.in_ok-pointer.pointer (c.in_ok-rank.rank, c.in_ok-rank.lot) c.in_ok-pointer.ensures c.in_ok-rank.ensures))
