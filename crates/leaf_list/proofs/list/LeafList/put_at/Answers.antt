use Rattle.leaf_list.proofs.Entering.{put-ordered, put-entries, put-houses}
use Rattle.leaf_list.proofs.list.LeafList.put_at.Goals as goal

pub put-requires-clause-leaf : goal.put-requires-clause-leaf
put-requires-clause-leaf g c =
    rw (← c.self.view_is) at c.requires.leaf

pub put-requires-clause-within : goal.put-requires-clause-within
put-requires-clause-within g c =
    rw (← c.self.view_is) at c.requires.within

pub put-requires-clause-room : goal.put-requires-clause-room
put-requires-clause-room g c =
    rw (← c.self.view_is) at c.requires.roomy

pub invariant_of-self : goal.invariant_of-self
invariant_of-self g c =
    rw c.put.ensures (put-ordered g.K.Ord.cmp g.met.K.Ord.total c.self.inside.store.leaves c.self.invariant (g.P.Inx.BasePtrInx.number c.args.gap.leaf) c.args.gap.at (c.args.k, g.P.Inx.BasePtrInx.number c.args.name) (rw (← c.self.view_is) at c.requires.leaf) (rw (← c.self.view_is) at c.requires.within) c.self.inside.store.room (rw (← c.self.view_is) at c.requires.free) (rw (← c.self.view_is) at c.requires.point))

pub returns-clause-entries : goal.returns-clause-entries
returns-clause-entries g c =
    rw (c.put.ensures, ← c.self.view_is) (put-entries g.K.Ord.cmp g.met.K.Ord.total c.self.inside.store.leaves c.self.invariant (g.P.Inx.BasePtrInx.number c.args.gap.leaf) c.args.gap.at (c.args.k, g.P.Inx.BasePtrInx.number c.args.name) (rw (← c.self.view_is) at c.requires.leaf) (rw (← c.self.view_is) at c.requires.within) c.self.inside.store.room (rw (← c.self.view_is) at c.requires.free) (rw (← c.self.view_is) at c.requires.point))

pub returns-clause-houses : goal.returns-clause-houses
returns-clause-houses g c =
    rw (c.put.ensures, ← c.self.view_is) (put-houses g.K.Ord.cmp g.met.K.Ord.total c.self.inside.store.leaves c.self.invariant (g.P.Inx.BasePtrInx.number c.args.gap.leaf) c.args.gap.at (c.args.k, g.P.Inx.BasePtrInx.number c.args.name) (rw (← c.self.view_is) at c.requires.leaf) (rw (← c.self.view_is) at c.requires.within) c.self.inside.store.room (rw (← c.self.view_is) at c.requires.free) (rw (← c.self.view_is) at c.requires.point))
