pub mod Plan
pub mod Table
pub mod Entries
pub mod Causes
pub mod File
