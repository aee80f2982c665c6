use Rattle.arena_base.proofs.{Words.arith, Slots.greatest_occupied-below, Steps.resized-room}
use Rattle.arena_base.proofs.arena.Arena.grow.Goals as goal

pub set_capacity-requires-clause-entries : goal.set_capacity-requires-clause-entries
set_capacity-requires-clause-entries g c = omega (arith, greatest_occupied-below c.args.self.now.slots)

pub returns-in-Ok-clause-room : goal.returns-in-Ok-clause-room
returns-in-Ok-clause-room g c =
    rw c.in-Ok.ensures.ok (resized-room c.doubled_capacity.result c.args.self.now.slots c.capacity-capacity.ensures.sound.begins (omega arith))
