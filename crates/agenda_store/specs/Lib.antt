pub mod Planner
pub mod History
pub mod Requests
pub mod Store
-- What contracts above cite of the layer below.
pub use Rattle.job_table.specs.Plan
pub use Rattle.job_table.specs.Table
pub use Rattle.job_table.specs.Causes
pub mod StoreLayout
