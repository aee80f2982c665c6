use Rattle.arena_base.proofs.Words.{arith, common_steps}
use Rattle.arena_base.proofs.arena.Arena.get.Goals as goal

pub returns-in-Some : goal.returns-in-Some
returns-in-Some g c = grind (arith, common_steps)
