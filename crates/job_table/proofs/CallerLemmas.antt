-- For callers: when a call fails with a cause, what a crash leaves, and that rows stand for one plan.
pub use Rattle.job_table.proofs.Failing.{of_ok, of_err, up, cause_in}
pub use Rattle.job_table.proofs.Once.{one_plan}
pub use Rattle.job_table.proofs.Leaving.{at_all}
