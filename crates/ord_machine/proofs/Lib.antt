-- Lemmas of this crate.
pub mod Lists
pub mod Draining
pub mod Ranking
pub mod Insertions
pub mod CallerLemmas
pub mod Marking
pub mod Bounded
pub mod Runs
pub mod FirstRank
pub mod Outcomes
pub mod Ended
pub mod Kept
pub mod Ascending
pub mod InOrder
pub mod RankChanges
