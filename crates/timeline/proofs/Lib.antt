-- Lemmas of this crate.
pub mod Cutting
pub mod Values
pub mod Setting
pub mod Places
pub mod Around
pub mod Taking
pub mod Painting
pub mod Walking
pub mod LastChange
