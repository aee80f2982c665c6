-- What pointers find after each change, that listings stay in order, and how they lie in ordered arenas.
pub mod Pointers
pub mod Order
pub mod Rules
pub mod Ended
pub mod Kept
pub mod Stepping
pub mod Holding
pub mod Places
pub mod CallerLemmas
-- The lemmas of the layers below, for the containers.
pub use Rattle.triple_ord.proofs.ChainLemmas
pub use Rattle.triple_ord.proofs.TreeLemmas
pub use Rattle.triple_ord.proofs.CallerLemmas as OrdLemmas
