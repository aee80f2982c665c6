-- What public clauses cite.
pub mod Feed
pub mod Words
