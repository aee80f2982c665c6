pub mod Popping
pub mod Showing
pub mod Steps
pub mod Come
