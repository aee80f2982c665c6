use Rattle.arena_base.proofs.Words.{arith, common_steps}
use Rattle.arena_base.proofs.ptr.pointers.P32BasePtr._from_raw.Goals as goal

pub returns : goal.returns
returns c = grind (arith, common_steps)
