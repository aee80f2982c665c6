-- The definitions that the contracts use.
pub mod Machine
pub mod Laws
pub mod Pointers
pub mod Ascending
pub mod InOrder
pub mod RankChanges
-- What contracts above cite of the layers below.
pub use Rattle.triple_ord.specs.Invalidation
pub use Rattle.triple_ord.specs.InvalidationResult
pub use Rattle.triple_ord.specs.Chain
pub use Rattle.triple_ord.specs.Shape
pub use Rattle.triple_ord.specs.Tree
pub use Rattle.triple_ord.specs.ClosureSearch
pub use Rattle.triple_ord.specs.Insertion
pub use Rattle.triple_ord.specs.Place
pub use Rattle.triple_ord.specs.PlainPointer
pub use Rattle.triple_ord.specs.declared.entry_kind.OrdEntryKind
pub use Rattle.triple_ord.specs.declared.error.OrdInsertionError
pub use Rattle.triple_ord.specs.declared.growth.Growth
pub use Rattle.triple_ord.specs.declared.insert_kind.OrdInsertKind
