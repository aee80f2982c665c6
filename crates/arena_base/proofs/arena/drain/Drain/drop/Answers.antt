use Rattle.arena_base.proofs.Words.{arith, common_steps}
use Rattle.arena_base.proofs.arena.drain.Drain.drop.Goals as goal

pub returns : goal.returns
returns g c = grind (arith, common_steps)
