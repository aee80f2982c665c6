-- What public clauses cite.
pub mod Ending
pub mod Times
