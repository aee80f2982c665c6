-- What the proofs share.
pub mod Owned
pub mod Runs
pub mod Extending
pub mod Answers
