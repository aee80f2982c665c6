use Rattle.std.proofs.Common.{arith, ap}
use Rattle.leaf_list.proofs.Sharing.{single-size, closed-size, joined-is}
use Rattle.leaf_list.proofs.store.LeafStore.join.Goals as goal

pub close-k-requires : goal.close-k-requires
close-k-requires g c = rw c.move_rest.ensures (single-size c.args.self.now.leaves (g.P.Inx.BasePtrInx.number c.args.from) (g.P.Inx.BasePtrInx.number c.args.to) c.requires.other c.requires.from c.requires.to)

pub put-requires-clause-leaf : goal.put-requires-clause-leaf
put-requires-clause-leaf g c =
    let size = closed-size c.args.self.now.leaves (g.P.Inx.BasePtrInx.number c.args.from) (g.P.Inx.BasePtrInx.number c.args.to) c.requires.other c.requires.from c.requires.to in
    let from = c.requires.from in
    let to = c.requires.to in rw (c.close-k.ensures.leaves, c.move_rest.ensures) (omega arith)

pub put-requires-clause-within : goal.put-requires-clause-within
put-requires-clause-within g c =
    let size = closed-size c.args.self.now.leaves (g.P.Inx.BasePtrInx.number c.args.from) (g.P.Inx.BasePtrInx.number c.args.to) c.requires.other c.requires.from c.requires.to in
    let from = c.requires.from in
    let value = c.size-size.ensures.value in rw (c.close-k.ensures.leaves, c.move_rest.ensures) (omega arith)

pub put-requires-clause-room : goal.put-requires-clause-room
put-requires-clause-room g c =
    let size = closed-size c.args.self.now.leaves (g.P.Inx.BasePtrInx.number c.args.from) (g.P.Inx.BasePtrInx.number c.args.to) c.requires.other c.requires.from c.requires.to in
    let room = c.requires.room in rw (c.close-k.ensures.leaves, c.move_rest.ensures) (omega arith)

pub returns : goal.returns
returns g c =
    rw (c.put.ensures, c.close-k.ensures.leaves, c.move_rest.ensures)
    (ap (λ ls. record c.args.self.now { leaves = ls }) (joined-is c.args.self.now.leaves (g.P.Inx.BasePtrInx.number c.args.from) (g.P.Inx.BasePtrInx.number c.args.to) c.requires.other c.requires.from c.requires.to (c.close-k.result.0, g.P.Inx.BasePtrInx.number c.close-k.result.1) c.size-size.result c.size-size.ensures.value (rw c.move_rest.ensures at c.close-k.ensures.entry)))
