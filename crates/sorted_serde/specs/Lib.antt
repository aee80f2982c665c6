-- What public clauses cite.
pub mod Pairs
