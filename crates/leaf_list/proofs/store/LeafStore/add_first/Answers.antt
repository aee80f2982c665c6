use Rattle.std.proofs.Common.{[], ◌∷◌, arith, ap, sym, ◌∙◌}
use Rattle.leaf_list.proofs.Rooming.{room-is}
use Rattle.leaf_list.proofs.Coming.{inserts-of, no-entries, come-stored, come-first}
use Rattle.leaf_list.proofs.store.LeafStore.add_first.Goals as goal

pub insert_first-requires-clause-empty : goal.insert_first-requires-clause-empty
insert_first-requires-clause-empty g c =
    no-entries g.P.Inx.BasePtrInx.number c.self.inside.index.list.entries c.self.inside.rows.items c.args.self.now.leaves (ap (λ a. a.leaves) c.self.view_is) c.requires.empty

pub insert_first-requires-clause-vacant : goal.insert_first-requires-clause-vacant
insert_first-requires-clause-vacant g c =
    let room = room-is g.P.Inx.BasePtrInx.number c.self.inside.index c.self.inside.rows.items c.args.self.now c.self.view_is c.self.invariant _ _ c.len.ensures.sound in let some = c.requires.room in omega arith

pub invariant_of-self : goal.invariant_of-self
invariant_of-self g c =
    come-stored g.P.Inx.BasePtrInx.number c.self.inside.index c.self.inside.rows.items c.args.self.now c.self.view_is c.self.invariant c.insert_first.new.self c.insert_first.ensures.inserts.gap.front c.insert_first.ensures.inserts.gap.back c.insert_first.ensures.inserts.gap.cut c.new.result (g.P.BasePtr.numbers c.insert_first.result).0 (inserts-of _ _ _ _ _ _ c.insert_first.ensures.inserts.inserted)

pub returns : goal.returns
returns g c =
    come-first g.P.Inx.BasePtrInx.number c.self.inside.index c.self.inside.rows.items c.args.self.now c.self.view_is c.self.invariant c.insert_first.new.self c.insert_first.ensures.inserts.gap.front c.insert_first.ensures.inserts.gap.back c.insert_first.ensures.inserts.gap.cut c.new.result (g.P.BasePtr.numbers c.insert_first.result).0 (inserts-of _ _ _ _ _ _ c.insert_first.ensures.inserts.inserted) c.requires.empty
    ∙ ap (λ i. record c.args.self.now { leaves = record { number = i; entries = (c.new.result.0, g.P.Inx.BasePtrInx.number c.new.result.1) ∷ [] } ∷ [] }) (sym c.inx.ensures)
    ∙ ap (λ x. record c.args.self.now { leaves = record { number = g.P.Inx.BasePtrInx.number c.inx.result; entries = (x.0, g.P.Inx.BasePtrInx.number x.1) ∷ [] } ∷ [] }) c.new.ensures
