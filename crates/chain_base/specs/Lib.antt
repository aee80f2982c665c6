-- What public clauses cite.
pub mod Link
pub mod Chain
pub mod Insert
pub mod Move
pub mod Walk
pub mod Compression
pub mod Clone
-- How a chain lies in its arena. No public clause cites these files.
pub mod Layout
pub mod Exchange
pub mod Naming
pub mod Transfer
-- What contracts above cite of the layers below.
pub use Rattle.arena_base.specs.Arena as PlainArena
pub use Rattle.arena_base.specs.Clone as ArenaClone
pub use Rattle.arena_base.specs.Compression as ArenaCompression
pub use Rattle.arena_base.specs.Generation
pub use Rattle.arena_base.specs.Invalidation
pub use Rattle.arena_base.specs.Pointer
pub use Rattle.arena_base.specs.Room
pub use Rattle.arena_base.specs.Walk as ArenaWalk
pub use Rattle.arena_base.specs.declared.error.InsertionError
pub use Rattle.arena_base.specs.declared.error.ReallocationError
pub use Rattle.arena_base.specs.declared.invalidation.InvalidationOption
pub use Rattle.arena_base.specs.declared.invalidation.InvalidationResult
pub use Rattle.arena_base.specs.declared.ptr.BasePtr
pub use Rattle.arena_base.specs.declared.ptr.BasePtrGen
pub use Rattle.arena_base.specs.declared.ptr.BasePtrInx
