pub mod CallerLemmas
pub mod Clones
pub mod Compressing
pub mod Named
pub mod Slots
pub mod Steps
pub mod Walks
pub mod Words
