use Rattle.std.proofs.Common.{◌≡◌, ◌+◌, ◌-◌, Some, arith, ap, sym, ◌∙◌}
use Rattle.leaf_list.specs.Place.{position}
use Rattle.leaf_list.proofs.{Placing.has-leaf, Placing.entry-there, Neighbouring.position-next, Neighbouring.place-before, Neighbouring.none-before}
use Rattle.leaf_list.proofs.list.LeafList.before.Goals as goal

pub returns-then-at-gt0-clause-place : goal.returns-then-at-gt0-clause-place
returns-then-at-gt0-clause-place g c =
    let h = has-leaf c.self.inside.store.leaves (g.P.Inx.BasePtrInx.number c.args.p.leaf) c.args.p.at (rw (← c.self.view_is) at c.requires) in rw (← c.self.view_is) (entry-there c.self.inside.store.leaves (g.P.Inx.BasePtrInx.number c.args.p.leaf) (c.args.p.at - 1) (omega arith))

pub returns-then-at-gt0-clause-before : goal.returns-then-at-gt0-clause-before
returns-then-at-gt0-clause-before g c =
    let h = has-leaf c.self.inside.store.leaves (g.P.Inx.BasePtrInx.number c.args.p.leaf) c.args.p.at (rw (← c.self.view_is) at c.requires) in let place : c.args.p.at - 1 + 1 ≡ c.args.p.at = omega arith in
    rw (← c.self.view_is) (sym (position-next c.self.inside.store.leaves (g.P.Inx.BasePtrInx.number c.args.p.leaf) (c.args.p.at - 1) (omega arith)) ∙ ap (λ i. position c.self.inside.store.leaves (Some ((g.P.Inx.BasePtrInx.number c.args.p.leaf), i))) place)

pub before-requires : goal.before-requires
before-requires g c =
    let h = has-leaf c.self.inside.store.leaves (g.P.Inx.BasePtrInx.number c.args.p.leaf) c.args.p.at (rw (← c.self.view_is) at c.requires) in omega arith

pub returns-in_default-clause-none : goal.returns-in_default-clause-none
returns-in_default-clause-none g c =
    let h = has-leaf c.self.inside.store.leaves (g.P.Inx.BasePtrInx.number c.args.p.leaf) c.args.p.at (rw (← c.self.view_is) at c.requires) in
    let first : c.args.p.at ≡ 0 = omega arith in
    rw (← c.self.view_is) (ap (λ i. position c.self.inside.store.leaves (Some ((g.P.Inx.BasePtrInx.number c.args.p.leaf), i))) first ∙ none-before c.self.inside.store.leaves (g.P.Inx.BasePtrInx.number c.args.p.leaf) (omega arith) c.in_default.ensures.value)

pub size-size-requires : goal.size-size-requires
size-size-requires g c =
    let h = has-leaf c.self.inside.store.leaves (g.P.Inx.BasePtrInx.number c.args.p.leaf) c.args.p.at (rw (← c.self.view_is) at c.requires) in
    let b = place-before c.self.inside.store.leaves (g.P.Inx.BasePtrInx.number c.args.p.leaf) (g.P.Inx.BasePtrInx.number c.in-Some.leaf) c.room.ensures.apart (omega arith) c.in-Some.ensures.value in b.has

pub overflow_sub-result-2 : goal.overflow_sub-result-2
overflow_sub-result-2 g c =
    let h = has-leaf c.self.inside.store.leaves (g.P.Inx.BasePtrInx.number c.args.p.leaf) c.args.p.at (rw (← c.self.view_is) at c.requires) in
    let b = place-before c.self.inside.store.leaves (g.P.Inx.BasePtrInx.number c.args.p.leaf) (g.P.Inx.BasePtrInx.number c.in-Some.leaf) c.room.ensures.apart (omega arith) c.in-Some.ensures.value in let some = b.has in omega (arith, c.size-size.ensures.value)

pub returns-clause-place : goal.returns-clause-place
returns-clause-place g c =
    let h = has-leaf c.self.inside.store.leaves (g.P.Inx.BasePtrInx.number c.args.p.leaf) c.args.p.at (rw (← c.self.view_is) at c.requires) in
    let b = place-before c.self.inside.store.leaves (g.P.Inx.BasePtrInx.number c.args.p.leaf) (g.P.Inx.BasePtrInx.number c.in-Some.leaf) c.room.ensures.apart (omega arith) c.in-Some.ensures.value in let some = b.has in rw (← c.self.view_is) (entry-there c.self.inside.store.leaves (g.P.Inx.BasePtrInx.number c.in-Some.leaf) (c.size-size.result - 1) (omega (arith, c.size-size.ensures.value)))

pub returns-clause-before : goal.returns-clause-before
returns-clause-before g c =
    let h = has-leaf c.self.inside.store.leaves (g.P.Inx.BasePtrInx.number c.args.p.leaf) c.args.p.at (rw (← c.self.view_is) at c.requires) in
    let b = place-before c.self.inside.store.leaves (g.P.Inx.BasePtrInx.number c.args.p.leaf) (g.P.Inx.BasePtrInx.number c.in-Some.leaf) c.room.ensures.apart (omega arith) c.in-Some.ensures.value in
    let first : c.args.p.at ≡ 0 = omega arith in
    rw (← c.self.view_is) (ap (λ s. position c.self.inside.store.leaves (Some ((g.P.Inx.BasePtrInx.number c.in-Some.leaf), s - 1)) + 1) c.size-size.ensures.value ∙ b.before ∙ ap (λ i. position c.self.inside.store.leaves (Some ((g.P.Inx.BasePtrInx.number c.args.p.leaf), i))) (sym first))
