pub mod Lists
pub mod LaidOut
pub mod Vacancy
pub mod Room
pub mod Sound
pub mod Naming
pub mod Kept
pub mod Renumbering
pub mod Ranking
pub mod Compressing
pub mod Exchanging
pub mod Moving
pub mod Canonical
pub mod Steps
pub mod Ends
pub mod Places
pub mod Calls
pub mod Going
pub mod CallerLemmas
pub mod Transferring
pub mod Cloning
pub mod CloneKept
-- The lemmas of the layers below, for callers.
pub use Rattle.arena_base.proofs.CallerLemmas as ArenaLemmas
