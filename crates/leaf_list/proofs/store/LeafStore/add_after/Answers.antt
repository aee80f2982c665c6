use Rattle.std.proofs.Common.{◌≡◌, [], ◌∷◌, Some, None, length, arith, ap, sym, refl, ◌∙◌}
use Rattle.triple_ord.specs.Chain.{times}
use Rattle.leaf_list.specs.{Leaves.times_numbered, Parts.with_leaf}
use Rattle.leaf_list.proofs.Rooming.{room-is}
use Rattle.leaf_list.proofs.Storing.{is-here, none-at, length-stored}
use Rattle.leaf_list.proofs.Coming.{inserts-of, come-stored, come-fresh, come-after, ends-at}
use Rattle.leaf_list.proofs.store.LeafStore.add_after.Goals as goal

pub insert_beside-requires-clause-occupied : goal.insert_beside-requires-clause-occupied
insert_beside-requires-clause-occupied g c =
    let h = is-here g.P.Inx.BasePtrInx.number c.self.inside.index c.self.inside.rows.items c.args.self.now c.self.view_is c.self.invariant _ _ c.len.ensures.sound (g.P.Inx.BasePtrInx.number c.args.leaf) c.requires.leaf in rw h.there refl

pub insert_beside-requires-clause-vacant : goal.insert_beside-requires-clause-vacant
insert_beside-requires-clause-vacant g c =
    let room = room-is g.P.Inx.BasePtrInx.number c.self.inside.index c.self.inside.rows.items c.args.self.now c.self.view_is c.self.invariant _ _ c.len.ensures.sound in
    let few = c.requires.room in
    let size = ap length (ap (λ a. a.leaves) c.self.view_is) in
    omega (arith, length-stored g.P.Inx.BasePtrInx.number c.self.inside.index.list.entries c.self.inside.rows.items)

pub invariant_of-self : goal.invariant_of-self
invariant_of-self g c =
    come-stored g.P.Inx.BasePtrInx.number c.self.inside.index c.self.inside.rows.items c.args.self.now c.self.view_is c.self.invariant c.insert_beside.new.self c.insert_beside.ensures.inserts.gap.front c.insert_beside.ensures.inserts.gap.back c.insert_beside.ensures.inserts.gap.cut c.new.result (g.P.BasePtr.numbers c.insert_beside.result).0 (inserts-of _ _ _ _ _ _ c.insert_beside.ensures.inserts.inserted)

pub returns-clause-fresh : goal.returns-clause-fresh
returns-clause-fresh g c =
    ap (λ i. times_numbered i c.args.self.now.leaves) c.inx.ensures ∙ come-fresh g.P.Inx.BasePtrInx.number c.self.inside.index c.self.inside.rows.items c.args.self.now c.self.view_is c.self.invariant c.insert_beside.new.self c.insert_beside.ensures.inserts.gap.front c.insert_beside.ensures.inserts.gap.back c.insert_beside.ensures.inserts.gap.cut c.new.result (g.P.BasePtr.numbers c.insert_beside.result).0 (inserts-of _ _ _ _ _ _ c.insert_beside.ensures.inserts.inserted)

pub returns-clause-other : goal.returns-clause-other
returns-clause-other g c =
    λ same. let h = is-here g.P.Inx.BasePtrInx.number c.self.inside.index c.self.inside.rows.items c.args.self.now c.self.view_is c.self.invariant _ _ c.len.ensures.sound (g.P.Inx.BasePtrInx.number c.args.leaf) c.requires.leaf in
    let inserts = inserts-of _ _ _ _ _ _ c.insert_beside.ensures.inserts.inserted in
    let place : (g.P.BasePtr.numbers c.insert_beside.result).0 ≡ g.P.Inx.BasePtrInx.number c.args.leaf = sym c.inx.ensures ∙ same in
    let none = none-at c.self.inside.index.list.entries (g.P.Inx.BasePtrInx.number c.args.leaf) (ap (λ i. times i c.self.inside.index.list.entries) (sym place) ∙ inserts.free) in
    let lost : None ≡ Some (h.generation, h.item) = sym none ∙ h.there in cc

pub returns-clause-leaves : goal.returns-clause-leaves
returns-clause-leaves g c =
    come-after g.P.Inx.BasePtrInx.number c.self.inside.index c.self.inside.rows.items c.args.self.now c.self.view_is c.self.invariant c.insert_beside.new.self c.insert_beside.ensures.inserts.gap.front c.insert_beside.ensures.inserts.gap.back c.insert_beside.ensures.inserts.gap.cut c.new.result (g.P.BasePtr.numbers c.insert_beside.result).0 (inserts-of _ _ _ _ _ _ c.insert_beside.ensures.inserts.inserted) (g.P.Inx.BasePtrInx.number c.args.leaf) c.len.ensures.sound.distinct (ends-at c.insert_beside.ensures.inserts.gap.front (g.P.Inx.BasePtrInx.number c.args.leaf) c.insert_beside.ensures.inserts.place)
    ∙ ap (λ i. record c.args.self.now { leaves = with_leaf c.args.self.now.leaves (g.P.Inx.BasePtrInx.number c.args.leaf) (record { number = i; entries = (c.new.result.0, g.P.Inx.BasePtrInx.number c.new.result.1) ∷ [] }) }) (sym c.inx.ensures)
    ∙ ap (λ x. record c.args.self.now { leaves = with_leaf c.args.self.now.leaves (g.P.Inx.BasePtrInx.number c.args.leaf) (record { number = g.P.Inx.BasePtrInx.number c.inx.result; entries = (x.0, g.P.Inx.BasePtrInx.number x.1) ∷ [] }) }) c.new.ensures
