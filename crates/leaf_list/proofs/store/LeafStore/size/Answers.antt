use Rattle.std.proofs.Common.{length, arith, ap}
use Rattle.leaf_list.proofs.Storing.{is-here}
use Rattle.leaf_list.proofs.Writing.{row-read}
use Rattle.leaf_list.proofs.store.LeafStore.size.Goals as goal

pub row_of-requires : goal.row_of-requires
row_of-requires g c =
    let h = is-here g.P.Inx.BasePtrInx.number c.self.inside.index c.self.inside.rows.items c.args.self.now c.self.view_is c.self.invariant _ _ c.len.ensures.sound (g.P.Inx.BasePtrInx.number c.args.leaf) c.requires in h.above

pub index-requires : goal.index-requires
index-requires g c =
    let h = is-here g.P.Inx.BasePtrInx.number c.self.inside.index c.self.inside.rows.items c.args.self.now c.self.view_is c.self.invariant _ _ c.len.ensures.sound (g.P.Inx.BasePtrInx.number c.args.leaf) c.requires in
    omega (arith, h.row_there, c.row_of.ensures, c.self.inside.rows.ok.0)

pub returns-clause-value : goal.returns-clause-value
returns-clause-value g c =
    let h = is-here g.P.Inx.BasePtrInx.number c.self.inside.index c.self.inside.rows.items c.args.self.now c.self.view_is c.self.invariant _ _ c.len.ensures.sound (g.P.Inx.BasePtrInx.number c.args.leaf) c.requires in
    let row = row-read c.self.inside.rows.items c.row_of.result (g.P.Inx.BasePtrInx.number c.args.leaf) c.index.result.now _ c.row_of.ensures (omega (arith, h.row_there, c.row_of.ensures)) c.index.ensures in
    omega (arith, c.len-2.ensures.value, ap length row, h.size)
