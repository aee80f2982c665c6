use Rattle.std.proofs.Common.{arith}
use Rattle.leaf_list.proofs.Entering.{full-count}
use Rattle.leaf_list.proofs.Parting.{first-size, second-size, low-has, low-within, low-entries, low-ordered, low-houses, high-has, high-within, high-entries, high-ordered, high-houses}
use Rattle.leaf_list.proofs.list.LeafList.split_at.Goals as goal

pub split-new-requires-clause-full : goal.split-new-requires-clause-full
split-new-requires-clause-full g c =
    rw (← c.self.view_is) at c.requires.full

pub split-new-requires-clause-room : goal.split-new-requires-clause-room
split-new-requires-clause-room g c =
    let room = (rw (← c.self.view_is) at c.requires.room) in let few = full-count c.self.inside.store.leaves (g.P.Inx.BasePtrInx.number c.args.gap.leaf) c.self.invariant.filled c.room.ensures.apart (rw (← c.self.view_is) at c.requires.full) in omega arith

pub put-requires-clause-leaf : goal.put-requires-clause-leaf
put-requires-clause-leaf g c =
    rw c.split-new.ensures.leaves (high-has g.K.Ord.cmp g.met.K.Ord.total c.self.inside.store.leaves c.self.invariant (g.P.Inx.BasePtrInx.number c.args.gap.leaf) (g.P.Inx.BasePtrInx.number c.split-new.result) c.args.gap.at (c.args.k, g.P.Inx.BasePtrInx.number c.args.name) (rw (← c.self.view_is) at c.requires.full) (rw (← c.self.view_is) at c.requires.within) c.split-new.ensures.fresh c.split-new.ensures.other c.self.inside.store.room (rw (← c.self.view_is) at c.requires.free) (rw (← c.self.view_is) at c.requires.point) (omega arith))

pub put-requires-clause-within : goal.put-requires-clause-within
put-requires-clause-within g c =
    rw c.split-new.ensures.leaves (high-within g.K.Ord.cmp g.met.K.Ord.total c.self.inside.store.leaves c.self.invariant (g.P.Inx.BasePtrInx.number c.args.gap.leaf) (g.P.Inx.BasePtrInx.number c.split-new.result) c.args.gap.at (c.args.k, g.P.Inx.BasePtrInx.number c.args.name) (rw (← c.self.view_is) at c.requires.full) (rw (← c.self.view_is) at c.requires.within) c.split-new.ensures.fresh c.split-new.ensures.other c.self.inside.store.room (rw (← c.self.view_is) at c.requires.free) (rw (← c.self.view_is) at c.requires.point) (omega arith))

pub put-requires-clause-room : goal.put-requires-clause-room
put-requires-clause-room g c =
    let size = second-size g.K.Ord.cmp g.met.K.Ord.total c.self.inside.store.leaves c.self.invariant (g.P.Inx.BasePtrInx.number c.args.gap.leaf) (g.P.Inx.BasePtrInx.number c.split-new.result) c.args.gap.at (c.args.k, g.P.Inx.BasePtrInx.number c.args.name) (rw (← c.self.view_is) at c.requires.full) (rw (← c.self.view_is) at c.requires.within) c.split-new.ensures.fresh c.split-new.ensures.other c.self.inside.store.room (rw (← c.self.view_is) at c.requires.free) (rw (← c.self.view_is) at c.requires.point) in rw c.split-new.ensures.leaves (omega arith)

pub invariant_of-self : goal.invariant_of-self
invariant_of-self g c =
    rw (c.put.ensures, c.split-new.ensures.leaves) (high-ordered g.K.Ord.cmp g.met.K.Ord.total c.self.inside.store.leaves c.self.invariant (g.P.Inx.BasePtrInx.number c.args.gap.leaf) (g.P.Inx.BasePtrInx.number c.split-new.result) c.args.gap.at (c.args.k, g.P.Inx.BasePtrInx.number c.args.name) (rw (← c.self.view_is) at c.requires.full) (rw (← c.self.view_is) at c.requires.within) c.split-new.ensures.fresh c.split-new.ensures.other c.self.inside.store.room (rw (← c.self.view_is) at c.requires.free) (rw (← c.self.view_is) at c.requires.point) (omega arith))

pub returns-then-at-gt-LEAST-clause-entries : goal.returns-then-at-gt-LEAST-clause-entries
returns-then-at-gt-LEAST-clause-entries g c =
    rw (c.put.ensures, c.split-new.ensures.leaves, ← c.self.view_is) (high-entries g.K.Ord.cmp g.met.K.Ord.total c.self.inside.store.leaves c.self.invariant (g.P.Inx.BasePtrInx.number c.args.gap.leaf) (g.P.Inx.BasePtrInx.number c.split-new.result) c.args.gap.at (c.args.k, g.P.Inx.BasePtrInx.number c.args.name) (rw (← c.self.view_is) at c.requires.full) (rw (← c.self.view_is) at c.requires.within) c.split-new.ensures.fresh c.split-new.ensures.other c.self.inside.store.room (rw (← c.self.view_is) at c.requires.free) (rw (← c.self.view_is) at c.requires.point) (omega arith))

pub returns-then-at-gt-LEAST-clause-houses : goal.returns-then-at-gt-LEAST-clause-houses
returns-then-at-gt-LEAST-clause-houses g c =
    rw (c.put.ensures, c.split-new.ensures.leaves, ← c.self.view_is) (high-houses g.K.Ord.cmp g.met.K.Ord.total c.self.inside.store.leaves c.self.invariant (g.P.Inx.BasePtrInx.number c.args.gap.leaf) (g.P.Inx.BasePtrInx.number c.split-new.result) c.args.gap.at (c.args.k, g.P.Inx.BasePtrInx.number c.args.name) (rw (← c.self.view_is) at c.requires.full) (rw (← c.self.view_is) at c.requires.within) c.split-new.ensures.fresh c.split-new.ensures.other c.self.inside.store.room (rw (← c.self.view_is) at c.requires.free) (rw (← c.self.view_is) at c.requires.point) (omega arith))

pub put-requires-2-clause-leaf : goal.put-requires-2-clause-leaf
put-requires-2-clause-leaf g c =
    rw c.split-new.ensures.leaves (low-has g.K.Ord.cmp g.met.K.Ord.total c.self.inside.store.leaves c.self.invariant (g.P.Inx.BasePtrInx.number c.args.gap.leaf) (g.P.Inx.BasePtrInx.number c.split-new.result) c.args.gap.at (c.args.k, g.P.Inx.BasePtrInx.number c.args.name) (rw (← c.self.view_is) at c.requires.full) (rw (← c.self.view_is) at c.requires.within) c.split-new.ensures.fresh c.split-new.ensures.other c.self.inside.store.room (rw (← c.self.view_is) at c.requires.free) (rw (← c.self.view_is) at c.requires.point) (omega arith))

pub put-requires-2-clause-within : goal.put-requires-2-clause-within
put-requires-2-clause-within g c =
    rw c.split-new.ensures.leaves (low-within g.K.Ord.cmp g.met.K.Ord.total c.self.inside.store.leaves c.self.invariant (g.P.Inx.BasePtrInx.number c.args.gap.leaf) (g.P.Inx.BasePtrInx.number c.split-new.result) c.args.gap.at (c.args.k, g.P.Inx.BasePtrInx.number c.args.name) (rw (← c.self.view_is) at c.requires.full) (rw (← c.self.view_is) at c.requires.within) c.split-new.ensures.fresh c.split-new.ensures.other c.self.inside.store.room (rw (← c.self.view_is) at c.requires.free) (rw (← c.self.view_is) at c.requires.point) (omega arith))

pub put-requires-2-clause-room : goal.put-requires-2-clause-room
put-requires-2-clause-room g c =
    let size = first-size g.K.Ord.cmp g.met.K.Ord.total c.self.inside.store.leaves c.self.invariant (g.P.Inx.BasePtrInx.number c.args.gap.leaf) (g.P.Inx.BasePtrInx.number c.split-new.result) c.args.gap.at (c.args.k, g.P.Inx.BasePtrInx.number c.args.name) (rw (← c.self.view_is) at c.requires.full) (rw (← c.self.view_is) at c.requires.within) c.split-new.ensures.fresh c.split-new.ensures.other c.self.inside.store.room (rw (← c.self.view_is) at c.requires.free) (rw (← c.self.view_is) at c.requires.point) in rw c.split-new.ensures.leaves (omega arith)

pub invariant_of-self-2 : goal.invariant_of-self-2
invariant_of-self-2 g c =
    rw (c.put-2.ensures, c.split-new.ensures.leaves) (low-ordered g.K.Ord.cmp g.met.K.Ord.total c.self.inside.store.leaves c.self.invariant (g.P.Inx.BasePtrInx.number c.args.gap.leaf) (g.P.Inx.BasePtrInx.number c.split-new.result) c.args.gap.at (c.args.k, g.P.Inx.BasePtrInx.number c.args.name) (rw (← c.self.view_is) at c.requires.full) (rw (← c.self.view_is) at c.requires.within) c.split-new.ensures.fresh c.split-new.ensures.other c.self.inside.store.room (rw (← c.self.view_is) at c.requires.free) (rw (← c.self.view_is) at c.requires.point) (omega arith))

pub returns-clause-entries : goal.returns-clause-entries
returns-clause-entries g c =
    rw (c.put-2.ensures, c.split-new.ensures.leaves, ← c.self.view_is) (low-entries g.K.Ord.cmp g.met.K.Ord.total c.self.inside.store.leaves c.self.invariant (g.P.Inx.BasePtrInx.number c.args.gap.leaf) (g.P.Inx.BasePtrInx.number c.split-new.result) c.args.gap.at (c.args.k, g.P.Inx.BasePtrInx.number c.args.name) (rw (← c.self.view_is) at c.requires.full) (rw (← c.self.view_is) at c.requires.within) c.split-new.ensures.fresh c.split-new.ensures.other c.self.inside.store.room (rw (← c.self.view_is) at c.requires.free) (rw (← c.self.view_is) at c.requires.point) (omega arith))

pub returns-clause-houses : goal.returns-clause-houses
returns-clause-houses g c =
    rw (c.put-2.ensures, c.split-new.ensures.leaves, ← c.self.view_is) (low-houses g.K.Ord.cmp g.met.K.Ord.total c.self.inside.store.leaves c.self.invariant (g.P.Inx.BasePtrInx.number c.args.gap.leaf) (g.P.Inx.BasePtrInx.number c.split-new.result) c.args.gap.at (c.args.k, g.P.Inx.BasePtrInx.number c.args.name) (rw (← c.self.view_is) at c.requires.full) (rw (← c.self.view_is) at c.requires.within) c.split-new.ensures.fresh c.split-new.ensures.other c.self.inside.store.room (rw (← c.self.view_is) at c.requires.free) (rw (← c.self.view_is) at c.requires.point) (omega arith))
