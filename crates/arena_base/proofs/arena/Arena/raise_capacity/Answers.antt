use Rattle.arena_base.proofs.{Words.arith, Slots.greatest_occupied-below}
use Rattle.arena_base.proofs.arena.Arena.raise_capacity.Goals as goal

pub set_capacity-requires-clause-entries : goal.set_capacity-requires-clause-entries
set_capacity-requires-clause-entries g c = omega (arith, greatest_occupied-below c.args.self.now.slots)
