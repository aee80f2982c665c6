use Rattle.leaf_list.proofs.{Cutting.entry_at-entries, Neighbouring.name-there}
use Rattle.leaf_list.proofs.list.LeafList.place.Goals as goal

pub index_of-at-requires-clause-named : goal.index_of-at-requires-clause-named
index_of-at-requires-clause-named g c =
    let there = name-there g.K.Ord.cmp c.self.inside.store.leaves c.self.invariant c.room.ensures.apart (g.P.Inx.BasePtrInx.number c.args.name) (g.P.Inx.BasePtrInx.number c.args.leaf) (rw (← c.self.view_is) at c.requires) in there.0

pub index_of-at-requires-clause-once : goal.index_of-at-requires-clause-once
index_of-at-requires-clause-once g c =
    let there = name-there g.K.Ord.cmp c.self.inside.store.leaves c.self.invariant c.room.ensures.apart (g.P.Inx.BasePtrInx.number c.args.name) (g.P.Inx.BasePtrInx.number c.args.leaf) (rw (← c.self.view_is) at c.requires) in there.1

pub returns-clause-named : goal.returns-clause-named
returns-clause-named g c =
    rw (← c.self.view_is, entry_at-entries c.self.inside.store.leaves (g.P.Inx.BasePtrInx.number c.args.leaf) c.index_of-at.result) c.index_of-at.ensures
