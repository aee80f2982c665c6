use Rattle.std.proofs.Common.{ap, ◌∙◌}
use Rattle.leaf_list.proofs.{Cutting.entry_at-entries, Placing.has-leaf}
use Rattle.leaf_list.proofs.Renaming.{entry-here, named-is, named-flat, renamed-ordered, renames}
use Rattle.leaf_list.proofs.list.LeafList.rename.Goals as goal

pub set_name-requires : goal.set_name-requires
set_name-requires g c = has-leaf c.self.inside.store.leaves (g.P.Inx.BasePtrInx.number c.args.p.leaf) c.args.p.at (rw (← c.self.view_is) at c.requires.place)

pub invariant_of-self : goal.invariant_of-self
invariant_of-self g c =
    let here = entry-here c.self.inside.store.leaves (g.P.Inx.BasePtrInx.number c.args.p.leaf) c.args.p.at (rw (← c.self.view_is) at c.requires.place) in
    let free = rw (← c.self.view_is) at c.requires.free in
    rw c.set_name.ensures (renamed-ordered g.K.Ord.cmp c.self.inside.store.leaves c.self.invariant (g.P.Inx.BasePtrInx.number c.args.p.leaf) c.args.p.at here.0 here.1 (g.P.Inx.BasePtrInx.number c.args.name) c.self.inside.store.room free)

pub returns-clause-leaves : goal.returns-clause-leaves
returns-clause-leaves g c = rw (c.set_name.ensures, ← c.self.view_is) (ap (λ ls. record c.self.inside.store { leaves = ls }) (named-is c.self.inside.store.leaves (g.P.Inx.BasePtrInx.number c.args.p.leaf) c.args.p.at (g.P.Inx.BasePtrInx.number c.args.name)))

pub returns-clause-entries : goal.returns-clause-entries
returns-clause-entries g c =
    let within = has-leaf c.self.inside.store.leaves (g.P.Inx.BasePtrInx.number c.args.p.leaf) c.args.p.at (rw (← c.self.view_is) at c.requires.place) in
    rw (c.set_name.ensures, ← c.self.view_is) (named-flat c.self.inside.store.leaves (g.P.Inx.BasePtrInx.number c.args.p.leaf) c.args.p.at (g.P.Inx.BasePtrInx.number c.args.name) within)

pub returns-clause-houses : goal.returns-clause-houses
returns-clause-houses g c =
    let here = entry-here c.self.inside.store.leaves (g.P.Inx.BasePtrInx.number c.args.p.leaf) c.args.p.at (rw (← c.self.view_is) at c.requires.place) in
    let free = rw (← c.self.view_is) at c.requires.free in
    let entry = entry_at-entries c.self.inside.store.leaves (g.P.Inx.BasePtrInx.number c.args.p.leaf) c.args.p.at ∙ here.1 in
    rw (c.set_name.ensures, ← c.self.view_is, entry) (renames g.K.Ord.cmp c.self.inside.store.leaves c.self.invariant (g.P.Inx.BasePtrInx.number c.args.p.leaf) c.args.p.at here.0 here.1 (g.P.Inx.BasePtrInx.number c.args.name) c.self.inside.store.room free)
