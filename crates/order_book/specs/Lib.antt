-- What public clauses cite.
pub mod Queue
pub mod Id
pub mod Book
pub mod Names
pub mod Auction
pub mod Snapshot
pub mod Price
pub mod Words
-- How a queue lies in its arena, how a book is made of two queues, and what an order does to them. No public clause cites these files.
pub mod QueueLayout
pub mod Ladder
pub mod Layout
pub mod AuctionSteps
-- What contracts above cite of the layer below.
pub use Rattle.sorted_arena.specs.PlainArena
