-- What public clauses cite.
pub mod Prevention
-- How the orders that are met are gone through. No public clause cites this file.
pub mod Survey
-- What contracts above cite of the layer below.
pub use Rattle.order_book.specs.Book
pub use Rattle.order_book.specs.Names
pub use Rattle.order_book.specs.Words
pub use Rattle.order_book.specs.Id
