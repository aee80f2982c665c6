use Rattle.std.proofs.Common.{ap, ◌∙◌}
use Rattle.leaf_list.proofs.{Cutting.entry_at-entries, Placing.has-leaf}
use Rattle.leaf_list.proofs.Renaming.{second-within, swapped-is, swapped-flat, swapped-ordered, swaps}
use Rattle.leaf_list.proofs.list.LeafList.swap_names.Goals as goal

pub entry-requires : goal.entry-requires
entry-requires g c = has-leaf c.self.inside.store.leaves (g.P.Inx.BasePtrInx.number c.args.p.leaf) c.args.p.at (rw (← c.self.view_is) at c.requires.first)

pub entry-requires-2 : goal.entry-requires-2
entry-requires-2 g c = has-leaf c.self.inside.store.leaves (g.P.Inx.BasePtrInx.number c.args.q.leaf) c.args.q.at (rw (← c.self.view_is) at c.requires.second)

pub set_name-requires : goal.set_name-requires
set_name-requires g c = has-leaf c.self.inside.store.leaves (g.P.Inx.BasePtrInx.number c.args.p.leaf) c.args.p.at (rw (← c.self.view_is) at c.requires.first)

pub set_name-requires-2 : goal.set_name-requires-2
set_name-requires-2 g c = rw c.set_name.ensures (second-within g.K.Ord.cmp c.self.inside.store.leaves c.self.invariant (g.P.Inx.BasePtrInx.number c.args.p.leaf) c.args.p.at (g.P.Inx.BasePtrInx.number c.args.q.leaf) c.args.q.at (c.entry.result.0.now, g.P.Inx.BasePtrInx.number c.entry.result.1) (c.entry-2.result.0.now, g.P.Inx.BasePtrInx.number c.entry-2.result.1) c.entry.ensures c.entry-2.ensures)

pub invariant_of-self : goal.invariant_of-self
invariant_of-self g c = rw (c.set_name-2.ensures, c.set_name.ensures) (swapped-ordered g.K.Ord.cmp c.self.inside.store.leaves c.self.invariant (g.P.Inx.BasePtrInx.number c.args.p.leaf) c.args.p.at (g.P.Inx.BasePtrInx.number c.args.q.leaf) c.args.q.at (c.entry.result.0.now, g.P.Inx.BasePtrInx.number c.entry.result.1) (c.entry-2.result.0.now, g.P.Inx.BasePtrInx.number c.entry-2.result.1) c.entry.ensures c.entry-2.ensures)

pub returns-clause-leaves : goal.returns-clause-leaves
returns-clause-leaves g c =
    let first = entry_at-entries c.self.inside.store.leaves (g.P.Inx.BasePtrInx.number c.args.p.leaf) c.args.p.at ∙ c.entry.ensures in
    let second = entry_at-entries c.self.inside.store.leaves (g.P.Inx.BasePtrInx.number c.args.q.leaf) c.args.q.at ∙ c.entry-2.ensures in
    rw (c.set_name-2.ensures, c.set_name.ensures, ← c.self.view_is, first, second) (ap (λ ls. record c.self.inside.store { leaves = ls }) (swapped-is g.K.Ord.cmp c.self.inside.store.leaves c.self.invariant (g.P.Inx.BasePtrInx.number c.args.p.leaf) c.args.p.at (g.P.Inx.BasePtrInx.number c.args.q.leaf) c.args.q.at (c.entry.result.0.now, g.P.Inx.BasePtrInx.number c.entry.result.1) (c.entry-2.result.0.now, g.P.Inx.BasePtrInx.number c.entry-2.result.1) c.entry.ensures c.entry-2.ensures))

pub returns-clause-entries : goal.returns-clause-entries
returns-clause-entries g c =
    let first = entry_at-entries c.self.inside.store.leaves (g.P.Inx.BasePtrInx.number c.args.p.leaf) c.args.p.at ∙ c.entry.ensures in
    let second = entry_at-entries c.self.inside.store.leaves (g.P.Inx.BasePtrInx.number c.args.q.leaf) c.args.q.at ∙ c.entry-2.ensures in
    rw (c.set_name-2.ensures, c.set_name.ensures, ← c.self.view_is, first, second) (swapped-flat g.K.Ord.cmp c.self.inside.store.leaves c.self.invariant (g.P.Inx.BasePtrInx.number c.args.p.leaf) c.args.p.at (g.P.Inx.BasePtrInx.number c.args.q.leaf) c.args.q.at (c.entry.result.0.now, g.P.Inx.BasePtrInx.number c.entry.result.1) (c.entry-2.result.0.now, g.P.Inx.BasePtrInx.number c.entry-2.result.1) c.entry.ensures c.entry-2.ensures)

pub returns-clause-houses : goal.returns-clause-houses
returns-clause-houses g c =
    let first = entry_at-entries c.self.inside.store.leaves (g.P.Inx.BasePtrInx.number c.args.p.leaf) c.args.p.at ∙ c.entry.ensures in
    let second = entry_at-entries c.self.inside.store.leaves (g.P.Inx.BasePtrInx.number c.args.q.leaf) c.args.q.at ∙ c.entry-2.ensures in
    rw (c.set_name-2.ensures, c.set_name.ensures, ← c.self.view_is, first, second) (swaps g.K.Ord.cmp c.self.inside.store.leaves c.self.invariant (g.P.Inx.BasePtrInx.number c.args.p.leaf) c.args.p.at (g.P.Inx.BasePtrInx.number c.args.q.leaf) c.args.q.at (c.entry.result.0.now, g.P.Inx.BasePtrInx.number c.entry.result.1) (c.entry-2.result.0.now, g.P.Inx.BasePtrInx.number c.entry-2.result.1) c.entry.ensures c.entry-2.ensures c.self.inside.store.room)
