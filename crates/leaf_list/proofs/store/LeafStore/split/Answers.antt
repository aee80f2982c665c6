use Rattle.std.proofs.Common.{length, arith, ap, sym, ◌∙◌}
use Rattle.std.specs.List.{remove}
use Rattle.leaf_list.specs.Parts.{entries_in}
use Rattle.leaf_list.proofs.{Changing.own-changed, Leaving.length-removed}
use Rattle.leaf_list.proofs.Splitting.{length-changed, none-changed, new-own, new-there, split-is}
use Rattle.leaf_list.proofs.store.LeafStore.split.Goals as goal

pub take-k-requires-clause-within : goal.take-k-requires-clause-within
take-k-requires-clause-within g c =
    omega (arith, c.requires.full)

pub take-k-requires-clause-more : goal.take-k-requires-clause-more
take-k-requires-clause-more g c =
    omega (arith, c.requires.full)

pub add_after-new-requires-clause-leaf : goal.add_after-new-requires-clause-leaf
add_after-new-requires-clause-leaf g c =
    let full = c.requires.full in
    let own = own-changed c.args.self.now.leaves (g.P.Inx.BasePtrInx.number c.args.leaf) (remove (entries_in c.args.self.now.leaves (g.P.Inx.BasePtrInx.number c.args.leaf)) 16) (omega arith) in
    let size = ap length own in
    let less = length-removed (entries_in c.args.self.now.leaves (g.P.Inx.BasePtrInx.number c.args.leaf)) 16 (c.take-k.result.0, g.P.Inx.BasePtrInx.number c.take-k.result.1) c.take-k.ensures.entry in
    rw c.take-k.ensures.rest (omega arith)

pub add_after-new-requires-clause-room : goal.add_after-new-requires-clause-room
add_after-new-requires-clause-room g c =
    let room = c.requires.room in
    let same = length-changed c.args.self.now.leaves (g.P.Inx.BasePtrInx.number c.args.leaf) (remove (entries_in c.args.self.now.leaves (g.P.Inx.BasePtrInx.number c.args.leaf)) 16) in
    rw c.take-k.ensures.rest (omega arith)

pub move_tail-requires-clause-within : goal.move_tail-requires-clause-within
move_tail-requires-clause-within g c =
    let full = c.requires.full in
    let less = length-removed (entries_in c.args.self.now.leaves (g.P.Inx.BasePtrInx.number c.args.leaf)) 16 (c.take-k.result.0, g.P.Inx.BasePtrInx.number c.take-k.result.1) c.take-k.ensures.entry in
    let size = ap length (new-own c.args.self.now.leaves (g.P.Inx.BasePtrInx.number c.args.leaf) 16 (c.take-k.result.0, g.P.Inx.BasePtrInx.number c.take-k.result.1) (omega arith) (omega (arith, c.requires.full)) c.take-k.ensures.entry (g.P.Inx.BasePtrInx.number c.add_after-new.result) (rw c.take-k.ensures.rest at c.add_after-new.ensures.fresh)) in
    rw (c.add_after-new.ensures.leaves, c.take-k.ensures.rest) (omega arith)

pub move_tail-requires-clause-to : goal.move_tail-requires-clause-to
move_tail-requires-clause-to g c =
    rw (c.add_after-new.ensures.leaves, c.take-k.ensures.rest) (ap length (new-there c.args.self.now.leaves (g.P.Inx.BasePtrInx.number c.args.leaf) 16 (c.take-k.result.0, g.P.Inx.BasePtrInx.number c.take-k.result.1) (omega arith) (omega (arith, c.requires.full)) c.take-k.ensures.entry (g.P.Inx.BasePtrInx.number c.add_after-new.result) (rw c.take-k.ensures.rest at c.add_after-new.ensures.fresh) (let less = length-removed (entries_in c.args.self.now.leaves (g.P.Inx.BasePtrInx.number c.args.leaf)) 16 (c.take-k.result.0, g.P.Inx.BasePtrInx.number c.take-k.result.1) c.take-k.ensures.entry in let size = ap length (own-changed c.args.self.now.leaves (g.P.Inx.BasePtrInx.number c.args.leaf) (remove (entries_in c.args.self.now.leaves (g.P.Inx.BasePtrInx.number c.args.leaf)) 16) (omega (arith, c.requires.full))) in omega (arith, c.requires.full))))

pub move_tail-requires-clause-other : goal.move_tail-requires-clause-other
move_tail-requires-clause-other g c =
    λ same. c.add_after-new.ensures.other (sym same)

pub returns-clause-fresh : goal.returns-clause-fresh
returns-clause-fresh g c =
    sym (none-changed c.args.self.now.leaves (g.P.Inx.BasePtrInx.number c.args.leaf) (g.P.Inx.BasePtrInx.number c.add_after-new.result) (remove (entries_in c.args.self.now.leaves (g.P.Inx.BasePtrInx.number c.args.leaf)) 16)) ∙ (rw c.take-k.ensures.rest at c.add_after-new.ensures.fresh)

pub returns-clause-leaves : goal.returns-clause-leaves
returns-clause-leaves g c =
    rw (c.move_tail.ensures, c.add_after-new.ensures.leaves, c.take-k.ensures.rest) (ap (λ ls. record c.args.self.now { leaves = ls }) (split-is c.args.self.now.leaves (g.P.Inx.BasePtrInx.number c.args.leaf) 16 (c.take-k.result.0, g.P.Inx.BasePtrInx.number c.take-k.result.1) (omega arith) (omega (arith, c.requires.full)) c.take-k.ensures.entry (g.P.Inx.BasePtrInx.number c.add_after-new.result) (rw c.take-k.ensures.rest at c.add_after-new.ensures.fresh) (let less = length-removed (entries_in c.args.self.now.leaves (g.P.Inx.BasePtrInx.number c.args.leaf)) 16 (c.take-k.result.0, g.P.Inx.BasePtrInx.number c.take-k.result.1) c.take-k.ensures.entry in let size = ap length (own-changed c.args.self.now.leaves (g.P.Inx.BasePtrInx.number c.args.leaf) (remove (entries_in c.args.self.now.leaves (g.P.Inx.BasePtrInx.number c.args.leaf)) 16) (omega (arith, c.requires.full))) in omega (arith, c.requires.full))))
