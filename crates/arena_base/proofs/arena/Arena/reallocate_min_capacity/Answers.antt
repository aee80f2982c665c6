use Rattle.arena_base.proofs.Words.{arith, common_steps}
use Rattle.arena_base.proofs.arena.Arena.reallocate_min_capacity.Goals as goal

pub set_capacity-requires-clause-entries : goal.set_capacity-requires-clause-entries
set_capacity-requires-clause-entries g c = grind (arith, common_steps)
