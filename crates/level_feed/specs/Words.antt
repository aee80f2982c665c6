-- The words of an order book that a caller who publishes its levels needs.
pub use Rattle.order_book.specs.Words.{level_at}
pub use Rattle.order_book.specs.Book.{queue}
