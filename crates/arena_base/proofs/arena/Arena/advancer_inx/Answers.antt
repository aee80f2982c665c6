use Rattle.arena_base.proofs.Words.{arith, common_steps}
use Rattle.arena_base.proofs.arena.Arena.advancer_inx.Goals as goal

pub returns : goal.returns
returns g c = record { begins = c.from_inx.ensures; rising = grind (arith, common_steps); falling = grind (arith, common_steps) }
