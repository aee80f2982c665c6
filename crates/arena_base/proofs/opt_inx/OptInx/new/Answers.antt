use Rattle.arena_base.proofs.Words.{arith, common_steps}
use Rattle.arena_base.proofs.opt_inx.OptInx.new.Goals as goal

pub returns : goal.returns
returns g c = grind (arith, common_steps)
