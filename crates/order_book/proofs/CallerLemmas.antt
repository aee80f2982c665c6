-- Lemmas on what public clauses cite, for crates above.
-- a book that stays as it is: each of its names goes on
pub use Rattle.order_book.proofs.Names.{goes-nowhere}
-- an order whose limit the other side does not meet trades nothing; and what is traded and taken if nothing is
pub use Rattle.order_book.proofs.Trading.{within-missed, trades-none}
pub use Rattle.order_book.proofs.Taking.{taken-none}
