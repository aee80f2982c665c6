pub mod CallerLemmas
pub mod Found
pub mod Jobs
pub mod Once
pub mod Leaving
pub mod Changing
pub mod Checked
pub mod Reading
pub mod Quiet
pub mod Standing
pub mod Failing
mod Opening
