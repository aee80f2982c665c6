use Rattle.std.proofs.Common.{◌≡◌, ◌-◌, ◌∷◌, true, false, map, length, arith, ap, sym, subst, ◌∙◌}
use Rattle.leaf_list.specs.{Parts.entries_in, Layout.shown, Before.is_passed, Before.IsWithinHalvings}
use Rattle.leaf_list.proofs.{Storing.is-here, Writing.row-read}
use Rattle.leaf_list.proofs.Reading.{row-point}
use Rattle.leaf_list.proofs.store.LeafStore.count_before.Goals as goal

pub row_of-requires : goal.row_of-requires
row_of-requires g c =
    let h = is-here g.P.Inx.BasePtrInx.number c.self.inside.index c.self.inside.rows.items c.args.self.now c.self.view_is c.self.invariant _ _ c.len.ensures.sound (g.P.Inx.BasePtrInx.number c.args.leaf) c.requires in h.above

pub index-row-requires : goal.index-row-requires
index-row-requires g c =
    let h = is-here g.P.Inx.BasePtrInx.number c.self.inside.index c.self.inside.rows.items c.args.self.now c.self.view_is c.self.invariant _ _ c.len.ensures.sound (g.P.Inx.BasePtrInx.number c.args.leaf) c.requires in
    omega (arith, h.row_there, c.row_of.ensures, c.self.inside.rows.ok.0)

pub returns-clause-within : goal.returns-clause-within
returns-clause-within g c =
    let h = is-here g.P.Inx.BasePtrInx.number c.self.inside.index c.self.inside.rows.items c.args.self.now c.self.view_is c.self.invariant _ _ c.len.ensures.sound (g.P.Inx.BasePtrInx.number c.args.leaf) c.requires in
    let row = row-read c.self.inside.rows.items c.row_of.result (g.P.Inx.BasePtrInx.number c.args.leaf) c.index-row.result.now _ c.row_of.ensures (omega (arith, h.row_there, c.row_of.ensures)) c.index-row.ensures in
    omega (arith, ap length row, h.size, c.count_before.ensures.within)

pub returns-clause-point : goal.returns-clause-point
returns-clause-point g c =
    λ q within point. let h = is-here g.P.Inx.BasePtrInx.number c.self.inside.index c.self.inside.rows.items c.args.self.now c.self.view_is c.self.invariant _ _ c.len.ensures.sound (g.P.Inx.BasePtrInx.number c.args.leaf) c.requires in
    let row = row-read c.self.inside.rows.items c.row_of.result (g.P.Inx.BasePtrInx.number c.args.leaf) c.index-row.result.now _ c.row_of.ensures (omega (arith, h.row_there, c.row_of.ensures)) c.index-row.ensures in
    let part = row-point g.P.Inx.BasePtrInx.number (λ e. is_passed c.args.with_equals (g.K.Ord.cmp c.args.k.now e.0) ≡ true) (λ e. is_passed c.args.with_equals (g.K.Ord.cmp c.args.k.now e.0) ≡ false) (entries_in c.args.self.now.leaves (g.P.Inx.BasePtrInx.number c.args.leaf)) h.item c.index-row.result.now q (h.entries ∙ ap (λ r. shown g.P.Inx.BasePtrInx.number h.item ∷ map (shown g.P.Inx.BasePtrInx.number) r) (sym row)) within point in
    c.count_before.ensures.place q part.0 part.1

pub returns-clause-visits : goal.returns-clause-visits
returns-clause-visits g c =
    let h = is-here g.P.Inx.BasePtrInx.number c.self.inside.index c.self.inside.rows.items c.args.self.now c.self.view_is c.self.invariant _ _ c.len.ensures.sound (g.P.Inx.BasePtrInx.number c.args.leaf) c.requires in
    let row = row-read c.self.inside.rows.items c.row_of.result (g.P.Inx.BasePtrInx.number c.args.leaf) c.index-row.result.now _ c.row_of.ensures (omega (arith, h.row_there, c.row_of.ensures)) c.index-row.ensures in
    let size : length c.index-row.result.now ≡ length (entries_in c.args.self.now.leaves (g.P.Inx.BasePtrInx.number c.args.leaf)) - 1 = omega (arith, ap length row, h.size) in
    subst (λ m. IsWithinHalvings m c.count_before.result.1) size c.count_before.ensures.visits

pub returns-clause-few : goal.returns-clause-few
returns-clause-few g c =
    let h = is-here g.P.Inx.BasePtrInx.number c.self.inside.index c.self.inside.rows.items c.args.self.now c.self.view_is c.self.invariant _ _ c.len.ensures.sound (g.P.Inx.BasePtrInx.number c.args.leaf) c.requires in
    let row = row-read c.self.inside.rows.items c.row_of.result (g.P.Inx.BasePtrInx.number c.args.leaf) c.index-row.result.now _ c.row_of.ensures (omega (arith, h.row_there, c.row_of.ensures)) c.index-row.ensures in
    omega (arith, ap length row, h.size, c.len-2.ensures.few)
