use Rattle.std.proofs.Common.{arith}
use Rattle.leaf_list.proofs.Storing.{are-apart}
use Rattle.leaf_list.proofs.Rooming.{numbers-within, room-is}
use Rattle.leaf_list.proofs.store.LeafStore.room.Goals as goal

pub overflow_mul-result : goal.overflow_mul-result
overflow_mul-result g c =
    omega (arith, c.self.invariant.fits, c.capacity.ensures.value)

pub returns-clause-value : goal.returns-clause-value
returns-clause-value g c =
    let room = room-is g.P.Inx.BasePtrInx.number c.self.inside.index c.self.inside.rows.items c.args.self.now c.self.view_is c.self.invariant _ _ c.capacity.ensures.sound in omega (arith, c.capacity.ensures.value)

pub returns-clause-apart : goal.returns-clause-apart
returns-clause-apart g c =
    are-apart g.P.Inx.BasePtrInx.number c.self.inside.index c.self.inside.rows.items c.args.self.now c.self.view_is c.self.invariant _ _ c.capacity.ensures.sound

pub returns-clause-numbers : goal.returns-clause-numbers
returns-clause-numbers g c =
    numbers-within g.P.Inx.BasePtrInx.number c.self.inside.index c.self.inside.rows.items c.args.self.now c.self.view_is c.self.invariant _ _ c.capacity.ensures.sound
