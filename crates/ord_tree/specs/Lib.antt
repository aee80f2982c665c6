-- What public clauses cite.
pub mod Shape
pub mod Ranks
pub mod Numbers
pub mod Half
pub mod Parents
pub mod Potential
pub mod Laws
pub mod Node
pub mod Slots
pub mod Tree
pub mod Move
pub mod Append
pub mod Clone
-- How a tree lies in its chain, and the states between the steps of a call. No public clause cites these files.
pub mod Layout
pub mod TreeLinks
pub mod Balance
pub mod Account
pub mod ShapeCode
pub mod Leaf
pub mod LeafBranch
pub mod Promote
pub mod Rotate
pub mod Detach
pub mod Demote
pub mod Rebuild
pub mod MapNode
pub mod CloneNode
-- What contracts above cite of the layers below.
pub use Rattle.chain_base.specs.PlainArena
pub use Rattle.chain_base.specs.ArenaClone
pub use Rattle.chain_base.specs.ArenaCompression
pub use Rattle.chain_base.specs.Generation
pub use Rattle.chain_base.specs.Invalidation
pub use Rattle.chain_base.specs.Room
pub use Rattle.chain_base.specs.ArenaWalk
pub use Rattle.chain_base.specs.InsertionError
pub use Rattle.chain_base.specs.ReallocationError
pub use Rattle.chain_base.specs.InvalidationOption
pub use Rattle.chain_base.specs.InvalidationResult
pub use Rattle.chain_base.specs.BasePtr
pub use Rattle.chain_base.specs.BasePtrGen
pub use Rattle.chain_base.specs.BasePtrInx
pub use Rattle.chain_base.specs.Chain
pub use Rattle.chain_base.specs.Clone as ChainClone
pub use Rattle.chain_base.specs.Compression as ChainCompression
pub use Rattle.chain_base.specs.Insert
pub use Rattle.chain_base.specs.Link
pub use Rattle.chain_base.specs.Move as ChainMove
