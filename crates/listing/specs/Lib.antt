-- What public clauses cite.
pub mod Listing
pub mod Steps
-- How a listing lies in an ordered arena. No public clause cites this file.
pub mod Held
-- What contracts above cite of the layer below.
pub use Rattle.triple_ord.specs.Arena
pub use Rattle.triple_ord.specs.Chain
pub use Rattle.triple_ord.specs.ChainCompression
pub use Rattle.triple_ord.specs.Clone
pub use Rattle.triple_ord.specs.ClosureSearch
pub use Rattle.triple_ord.specs.Gap
pub use Rattle.triple_ord.specs.Generation
pub use Rattle.triple_ord.specs.Insert
pub use Rattle.triple_ord.specs.Insertion
pub use Rattle.triple_ord.specs.Link
pub use Rattle.triple_ord.specs.Order
pub use Rattle.triple_ord.specs.PastEquals
pub use Rattle.triple_ord.specs.Place
pub use Rattle.triple_ord.specs.PlainArena
pub use Rattle.triple_ord.specs.PlainPointer
pub use Rattle.triple_ord.specs.ReallocationError
pub use Rattle.triple_ord.specs.Rekey
pub use Rattle.triple_ord.specs.Search
pub use Rattle.triple_ord.specs.Shape
pub use Rattle.triple_ord.specs.Tree
pub use Rattle.triple_ord.specs.TreeAppend
pub use Rattle.triple_ord.specs.Walk
pub use Rattle.triple_ord.specs.declared.entry_kind.OrdEntryKind
pub use Rattle.triple_ord.specs.declared.growth.Growth
