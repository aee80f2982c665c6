-- One side: its orders and the entries of its arena, what comes to rest, is taken, or is summed up.
pub mod Rows
pub mod Laying
pub mod Places
pub mod Meeting
pub mod Ranks
pub mod Reading
pub mod Standing
pub mod Joining
pub mod Beginning
pub mod Leaving
pub mod Growing
pub mod Summing
pub mod Naming
pub mod Putting
pub mod Trading
pub mod Taking
pub mod Lasting
pub mod Reducing
pub mod Executing
pub mod Levels
pub mod AtPrice
pub mod Cancelling
pub mod Retaining
pub mod Cloning
-- An auction: the best one, how it is sought, and what it leaves.
pub mod Preferring
pub mod Seeking
pub mod Filling
-- A book of two sides.
pub mod Volumes
pub mod Rooms
pub mod Apart
pub mod Crossing
pub mod Pairs
pub mod Deals
pub mod Uncrossing
pub mod Restoring
pub mod Names
-- For crates above.
pub mod CallerLemmas
