-- For callers: the calls of a compression or of a clone in terms of other items or closures; the limit of a capacity.
pub use Rattle.arena_base.proofs.Clones.{clones-retold, clones-restated, clones-keep, clones-leave, stops-retold, stops-restated, stops-leave, failed-clone, failed-clone-retold}
pub use Rattle.arena_base.proofs.{Compressing.calls-retold, Steps.limit_of-below}
