use Rattle.std.proofs.Common.{arith, subst}
use Rattle.std.specs.Option.{option_map}
use Rattle.leaf_list.specs.Place.{IsPlaceOf}
use Rattle.leaf_list.proofs.{Placing.has-leaf, Neighbouring.position-next}
use Rattle.leaf_list.proofs.list.LeafList.after.Goals as goal

pub size-requires : goal.size-requires
size-requires g c =
    let h = has-leaf c.self.inside.store.leaves (g.P.Inx.BasePtrInx.number c.args.p.leaf) c.args.p.at (rw (← c.self.view_is) at c.requires) in omega arith

pub overflow_add-p : goal.overflow_add-p
overflow_add-p g c =
    let h = has-leaf c.self.inside.store.leaves (g.P.Inx.BasePtrInx.number c.args.p.leaf) c.args.p.at (rw (← c.self.view_is) at c.requires) in omega (arith, c.size.ensures.value, c.size.ensures.few)

pub place_at-requires-clause-leaf : goal.place_at-requires-clause-leaf
place_at-requires-clause-leaf g c =
    let h = has-leaf c.args.self.now.leaves (g.P.Inx.BasePtrInx.number c.args.p.leaf) c.args.p.at c.requires in omega arith

pub place_at-requires-clause-within : goal.place_at-requires-clause-within
place_at-requires-clause-within g c =
    let h = has-leaf c.args.self.now.leaves (g.P.Inx.BasePtrInx.number c.args.p.leaf) c.args.p.at c.requires in omega arith

pub returns : goal.returns
returns g c =
    let h = has-leaf c.args.self.now.leaves (g.P.Inx.BasePtrInx.number c.args.p.leaf) c.args.p.at c.requires in subst (IsPlaceOf c.args.self.now.leaves (option_map (λ p. (g.P.Inx.BasePtrInx.number p.leaf, p.at)) c.place_at.result)) (position-next c.args.self.now.leaves (g.P.Inx.BasePtrInx.number c.args.p.leaf) c.args.p.at (omega arith)) c.place_at.ensures
