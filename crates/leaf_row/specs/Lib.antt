-- What public clauses cite.
pub mod Before
pub mod Named
-- How the names of a row lie in its vector. No public clause cites this file.
pub mod Padding
