-- What public clauses cite.
pub mod Layout
pub mod Text
pub mod Framing
pub mod Drawing
pub mod Rows
pub mod Svg
pub mod Laws
-- The parts of a shape. No public clause cites these files.
pub mod Below
