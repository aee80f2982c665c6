pub mod Answer
pub mod Showing
pub mod Serving
