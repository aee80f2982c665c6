-- What public clauses cite.
pub mod Agenda
pub mod Answer
pub mod Bulk
pub mod Tickets
pub mod Whole
-- How an agenda lies in its arena, and how its jobs are asked for and scheduled one after another. No public clause cites these files.
pub mod Layout
pub mod Asking
pub mod Scheduling
-- What contracts above cite of the layer below.
pub use Rattle.listing.specs.Walk
pub use Rattle.listing.specs.Gap
