use Rattle.std.proofs.{Common.arith, lemmas.Grind.common_steps}
use Rattle.chain_base.proofs.CallerLemmas.{entry_at-without_other}
use Rattle.container_tests.proofs.trees.balance.move_beside.Goals as goal

pub move_beside-requires-clause-place : goal.move_beside-requires-clause-place
move_beside-requires-clause-place c = grind (arith, common_steps, entry_at-without_other)
