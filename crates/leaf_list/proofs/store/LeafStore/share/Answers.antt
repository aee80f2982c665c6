use Rattle.std.proofs.Common.{◌+◌, arith, ap, sym}
use Rattle.leaf_list.proofs.Sharing.{shared-none, shared-size, between-size, shared-next}
use Rattle.leaf_list.proofs.store.LeafStore.share.Goals as goal

pub loop-i-init : goal.loop-i-init
loop-i-init g c =
    let many = c.requires.from in
    sym (ap (λ ls. record c.args.self.now { leaves = ls }) (shared-none c.args.self.now.leaves (g.P.Inx.BasePtrInx.number c.args.from) (g.P.Inx.BasePtrInx.number c.args.to) c.requires.other (omega arith) c.requires.to))

pub take-k-requires-clause-within : goal.take-k-requires-clause-within
take-k-requires-clause-within g c =
    let many = c.requires.from in
    let size = shared-size c.args.self.now.leaves (g.P.Inx.BasePtrInx.number c.args.from) (g.P.Inx.BasePtrInx.number c.args.to) c.requires.other (omega arith) c.requires.to c.loop-i.i in rw c.loop-i.invariant (omega arith)

pub take-k-requires-clause-more : goal.take-k-requires-clause-more
take-k-requires-clause-more g c =
    let many = c.requires.from in
    let size = shared-size c.args.self.now.leaves (g.P.Inx.BasePtrInx.number c.args.from) (g.P.Inx.BasePtrInx.number c.args.to) c.requires.other (omega arith) c.requires.to c.loop-i.i in rw c.loop-i.invariant (omega arith)

pub put-requires-clause-leaf : goal.put-requires-clause-leaf
put-requires-clause-leaf g c =
    let many = c.requires.from in
    let size = between-size c.args.self.now.leaves (g.P.Inx.BasePtrInx.number c.args.from) (g.P.Inx.BasePtrInx.number c.args.to) c.requires.other (omega arith) c.requires.to c.loop-i.i (omega arith) in
    let to = c.requires.to in rw (c.take-k.ensures.rest, c.loop-i.invariant) (omega arith)

pub put-requires-clause-within : goal.put-requires-clause-within
put-requires-clause-within g c =
    let many = c.requires.from in
    let size = between-size c.args.self.now.leaves (g.P.Inx.BasePtrInx.number c.args.from) (g.P.Inx.BasePtrInx.number c.args.to) c.requires.other (omega arith) c.requires.to c.loop-i.i (omega arith) in
    let value = c.size-size.ensures.value in rw (c.take-k.ensures.rest, c.loop-i.invariant) (omega arith)

pub put-requires-clause-room : goal.put-requires-clause-room
put-requires-clause-room g c =
    let many = c.requires.from in
    let size = between-size c.args.self.now.leaves (g.P.Inx.BasePtrInx.number c.args.from) (g.P.Inx.BasePtrInx.number c.args.to) c.requires.other (omega arith) c.requires.to c.loop-i.i (omega arith) in
    let room = c.requires.room in rw (c.take-k.ensures.rest, c.loop-i.invariant) (omega arith)

pub loop-i-preserved : goal.loop-i-preserved
loop-i-preserved g c =
    let many = c.requires.from in
    let value = c.size-size.ensures.value in
    let next = shared-next c.args.self.now.leaves (g.P.Inx.BasePtrInx.number c.args.from) (g.P.Inx.BasePtrInx.number c.args.to) c.requires.other (omega arith) c.requires.to c.loop-i.i (c.take-k.result.0, g.P.Inx.BasePtrInx.number c.take-k.result.1) (c.size-size.result + c.loop-i.i) (omega arith) (omega arith) (rw c.loop-i.invariant at c.take-k.ensures.entry) in
    rw (c.put.ensures, c.take-k.ensures.rest, c.loop-i.invariant) (ap (λ ls. record c.args.self.now { leaves = ls }) next)
