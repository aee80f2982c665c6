use Rattle.arena_base.proofs.Words.{arith, common_steps}
use Rattle.arena_base.proofs.ptr.numbers.UsizeBasePtrInx.try_into_usize.Goals as goal

pub returns-then-self-eq0 : goal.returns-then-self-eq0
returns-then-self-eq0 c = grind (arith, common_steps)
