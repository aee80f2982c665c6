use Rattle.std.proofs.Common.{arith, refl}
use Rattle.leaf_list.proofs.{Placing.entry-there, Neighbouring.place-end, Neighbouring.place-next}
use Rattle.leaf_list.proofs.list.LeafList.place_at.Goals as goal

pub size-size-requires : goal.size-size-requires
size-size-requires g c =
    rw (← c.self.view_is) at c.requires.leaf

pub returns-then-at-size : goal.returns-then-at-size
returns-then-at-size g c =
    rw (← c.self.view_is) (record { place = entry-there c.self.inside.store.leaves (g.P.Inx.BasePtrInx.number c.args.leaf) c.args.at (omega (arith, c.size-size.ensures.value)); position_is = refl })

pub after-requires : goal.after-requires
after-requires g c =
    rw (← c.self.view_is) at c.requires.leaf

pub returns-in_default : goal.returns-in_default
returns-in_default g c =
    rw (← c.self.view_is) (place-end c.self.inside.store.leaves (g.P.Inx.BasePtrInx.number c.args.leaf) c.args.at (rw (← c.self.view_is) at c.requires.leaf) (let within = (rw (← c.self.view_is) at c.requires.within) in omega (arith, c.size-size.ensures.value)) c.in_default.ensures.value)

pub returns : goal.returns
returns g c =
    rw (← c.self.view_is) (place-next c.self.inside.store.leaves (g.P.Inx.BasePtrInx.number c.args.leaf) c.args.at (g.P.Inx.BasePtrInx.number c.in-Some.next) c.room.ensures.apart (rw (← c.self.view_is) at c.requires.leaf) (let within = (rw (← c.self.view_is) at c.requires.within) in omega (arith, c.size-size.ensures.value)) c.in-Some.ensures.value)
