-- Lemmas of this crate.
pub mod Parts
pub mod LinkedParts
pub mod LayoutLaws
pub mod Laying
pub mod Listing
pub mod Widest
pub mod Pieces
