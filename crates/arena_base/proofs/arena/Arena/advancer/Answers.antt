use Rattle.arena_base.proofs.Words.{arith, common_steps}
use Rattle.arena_base.proofs.arena.Arena.advancer.Goals as goal

pub returns : goal.returns
returns g c = record { begins = c.rising.ensures; rest = grind (arith, common_steps) }
