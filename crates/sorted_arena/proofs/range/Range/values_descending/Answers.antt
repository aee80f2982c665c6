use Rattle.sorted_arena.proofs.Ranging.{gives_in_order}
use Rattle.sorted_arena.proofs.range.Range.values_descending.Goals as goal

pub returns-clause-runs : goal.returns-clause-runs
returns-clause-runs g c = gives_in_order _
