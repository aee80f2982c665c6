-- The definitions that the contracts cite.
pub mod Slot
pub mod Status
pub mod Shown
pub mod Answer
pub mod Batch
