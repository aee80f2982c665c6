use Rattle.std.proofs.Common.{drop}
use Rattle.order_book.proofs.Restoring.{IsRestoring}
use Rattle.order_book.proofs.book.OrderBook.restored.Given as goal

-- how far the book is
abbrev pub invariant-loop-order : goal.invariant-loop-order
invariant-loop-order g l = IsRestoring l.orders (drop l.order-index l.orders) l.order-index l.book
