pub mod Words
pub mod Inserting
pub mod OrderLaws
pub mod KeptOrder
pub mod Without
pub mod Rekeying
pub mod RekeyOrder
pub mod Descending
pub mod OtherEntries
pub mod Stepping
pub mod NearEnds
pub mod Bare
pub mod Content
pub mod CallerLemmas
pub mod Room
pub mod Places
pub mod Appending
-- The lemmas of the layers below, for callers.
pub use Rattle.ord_tree.proofs.ChainLemmas
pub use Rattle.ord_tree.proofs.CallerLemmas as TreeLemmas
