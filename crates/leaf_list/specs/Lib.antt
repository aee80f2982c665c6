-- What public clauses cite.
pub mod Leaves
pub mod Place
pub mod House
pub mod Walk
-- The steps of the calls, and how leaves lie in an index and rows. No public clause cites these files.
pub mod Parts
pub mod Layout
-- What contracts above cite of the layers below.
pub use Rattle.leaf_row.specs.Before
