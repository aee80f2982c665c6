-- What public clauses cite.
pub mod Timeline
-- How a timeline lies in its arena. No public clause cites these files.
pub mod Layout
