use Rattle.std.proofs.Common.{◌+◌, ◌-◌, Some, arith, ap, sym, ◌∙◌}
use Rattle.leaf_list.specs.Place.{position}
use Rattle.leaf_list.proofs.{Entering.last-has, Placing.none-last, Placing.entry-there, Neighbouring.last-next}
use Rattle.leaf_list.proofs.list.LeafList.last.Goals as goal

pub returns-in_default-clause-none : goal.returns-in_default-clause-none
returns-in_default-clause-none g c =
    rw (← c.self.view_is) (none-last c.self.inside.store.leaves (sym c.in_default.ensures))

pub size-size-requires : goal.size-size-requires
size-size-requires g c =
    last-has c.self.inside.store.leaves (g.P.Inx.BasePtrInx.number c.in-Some.leaf) c.room.ensures.apart (sym c.in-Some.ensures)

pub overflow_sub-result : goal.overflow_sub-result
overflow_sub-result g c =
    let some = last-has c.self.inside.store.leaves (g.P.Inx.BasePtrInx.number c.in-Some.leaf) c.room.ensures.apart (sym c.in-Some.ensures) in omega (arith, c.size-size.ensures.value)

pub returns-clause-place : goal.returns-clause-place
returns-clause-place g c =
    let some = last-has c.self.inside.store.leaves (g.P.Inx.BasePtrInx.number c.in-Some.leaf) c.room.ensures.apart (sym c.in-Some.ensures) in rw (← c.self.view_is) (entry-there c.self.inside.store.leaves (g.P.Inx.BasePtrInx.number c.in-Some.leaf) (c.size-size.result - 1) (omega (arith, c.size-size.ensures.value)))

pub returns-clause-last : goal.returns-clause-last
returns-clause-last g c =
    rw (← c.self.view_is) (ap (λ s. position c.self.inside.store.leaves (Some ((g.P.Inx.BasePtrInx.number c.in-Some.leaf), s - 1)) + 1) c.size-size.ensures.value ∙ last-next c.self.inside.store.leaves (g.P.Inx.BasePtrInx.number c.in-Some.leaf) c.room.ensures.apart c.in-Some.ensures)
