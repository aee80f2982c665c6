-- Lemmas of this crate.
pub mod KnownBytes
pub mod Parts
pub mod Digits
pub mod Answered
pub mod NumberTexts
pub mod Spelled
pub mod ScriptTexts
pub mod FirstRankText
