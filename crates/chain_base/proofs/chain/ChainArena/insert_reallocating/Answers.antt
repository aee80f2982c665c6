use Rattle.std.proofs.Common.{arith, rules}
use Rattle.chain_base.proofs.chain.ChainArena.insert_reallocating.Goals as goal

pub returns : goal.returns
returns g c = record { ok = search rules; refused = search rules; room = omega (arith, c.make_room.ensures.capacity, c.insert_reserved.ensures.capacity) }
