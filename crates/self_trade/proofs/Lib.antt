-- The orders that are met, and the answers about them; those that are cancelled; what that leaves of a book.
pub mod Asking
pub mod Clearing
pub mod Admitting
pub mod Surveying
pub mod Rooming
pub mod Refusing
pub mod Outcomes
pub mod Going
