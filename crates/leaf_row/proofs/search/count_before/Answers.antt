use Rattle.std.proofs.Common.{arith}
use Rattle.leaf_row.proofs.Searching.{five}
use Rattle.leaf_row.proofs.search.count_before.Goals as goal

pub returns-then-n-clause-visits : goal.returns-then-n-clause-visits
returns-then-n-clause-visits g c = five _ _ (omega arith) c.count_within.ensures.visits
