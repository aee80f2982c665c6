-- The definitions that the contracts use.
pub mod Devices
pub mod Pairs
pub mod Text
pub mod Numbers
pub mod Arguments
pub mod Commands
pub mod Script
pub mod Service
pub mod Spelling
pub mod Laws
