-- Parts of a list of jobs, those that are due or that a test keeps, and jobs at the end of a vector.
pub mod Parts
pub mod Reached
pub mod Removing
pub mod Given
pub mod Taking
pub mod Walking
pub mod Whole
pub mod Retaining
pub mod Scheduling
-- That each call is a step of an agenda, and that tickets that ended stay so.
pub mod Stepping
pub mod Ended
pub mod CallerLemmas
