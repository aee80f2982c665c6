use Rattle.std.proofs.Common.{◌≡◌, ◌-◌, ◌∷◌, Some, map, length, slice_get, arith, ap, sym, ◌∙◌}
use Rattle.std.proofs.lemmas.List.{length-map, length-take}
use Rattle.leaf_list.specs.{Parts.entries_in, Layout.shown}
use Rattle.leaf_list.proofs.{Storing.is-here, Writing.row-read}
use Rattle.leaf_list.proofs.Reading.{read-both, behind-head}
use Rattle.leaf_list.proofs.store.LeafStore.entry.Goals as goal

pub head-requires : goal.head-requires
head-requires g c =
    let within = c.requires in omega arith

pub row_of-requires : goal.row_of-requires
row_of-requires g c =
    let h = is-here g.P.Inx.BasePtrInx.number c.self.inside.index c.self.inside.rows.items c.args.self.now c.self.view_is c.self.invariant _ _ c.len.ensures.sound (g.P.Inx.BasePtrInx.number c.args.leaf) (let within = c.requires in omega arith) in h.above

pub index-row-requires : goal.index-row-requires
index-row-requires g c =
    let h = is-here g.P.Inx.BasePtrInx.number c.self.inside.index c.self.inside.rows.items c.args.self.now c.self.view_is c.self.invariant _ _ c.len.ensures.sound (g.P.Inx.BasePtrInx.number c.args.leaf) (let within = c.requires in omega arith) in
    omega (arith, h.row_there, c.row_of.ensures, c.self.inside.rows.ok.0)

pub offset_bounds-keys-at : goal.offset_bounds-keys-at
offset_bounds-keys-at g c =
    let h = is-here g.P.Inx.BasePtrInx.number c.self.inside.index c.self.inside.rows.items c.args.self.now c.self.view_is c.self.invariant _ _ c.len.ensures.sound (g.P.Inx.BasePtrInx.number c.args.leaf) (let within = c.requires in omega arith) in
    let row = row-read c.self.inside.rows.items c.row_of.result (g.P.Inx.BasePtrInx.number c.args.leaf) c.index-row.result.now _ c.row_of.ensures (omega (arith, h.row_there, c.row_of.ensures)) c.index-row.ensures in
    let within = c.requires in omega (arith, ap length row, h.size, ap length c.keys.ensures, length-map c.index-row.result.now (λ (e : g.row.K.Denot × g.row.P-Inx.Denot). e.0))

pub offset_bounds-names-at : goal.offset_bounds-names-at
offset_bounds-names-at g c =
    let h = is-here g.P.Inx.BasePtrInx.number c.self.inside.index c.self.inside.rows.items c.args.self.now c.self.view_is c.self.invariant _ _ c.len.ensures.sound (g.P.Inx.BasePtrInx.number c.args.leaf) (let within = c.requires in omega arith) in
    let row = row-read c.self.inside.rows.items c.row_of.result (g.P.Inx.BasePtrInx.number c.args.leaf) c.index-row.result.now _ c.row_of.ensures (omega (arith, h.row_there, c.row_of.ensures)) c.index-row.ensures in
    let within = c.requires in omega (arith, ap length row, h.size, ap length c.names.ensures, length-map c.index-row.result.now (λ (e : g.row.K.Denot × g.row.P-Inx.Denot). e.1), length-take (length c.index-row.result.now) c.names.result.now)

pub bounds-keys-at : goal.bounds-keys-at
bounds-keys-at g c =
    let h = is-here g.P.Inx.BasePtrInx.number c.self.inside.index c.self.inside.rows.items c.args.self.now c.self.view_is c.self.invariant _ _ c.len.ensures.sound (g.P.Inx.BasePtrInx.number c.args.leaf) (let within = c.requires in omega arith) in
    let row = row-read c.self.inside.rows.items c.row_of.result (g.P.Inx.BasePtrInx.number c.args.leaf) c.index-row.result.now _ c.row_of.ensures (omega (arith, h.row_there, c.row_of.ensures)) c.index-row.ensures in
    let within = c.requires in omega (arith, ap length row, h.size, ap length c.keys.ensures, length-map c.index-row.result.now (λ (e : g.row.K.Denot × g.row.P-Inx.Denot). e.0))

pub bounds-names-at : goal.bounds-names-at
bounds-names-at g c =
    let h = is-here g.P.Inx.BasePtrInx.number c.self.inside.index c.self.inside.rows.items c.args.self.now c.self.view_is c.self.invariant _ _ c.len.ensures.sound (g.P.Inx.BasePtrInx.number c.args.leaf) (let within = c.requires in omega arith) in
    let row = row-read c.self.inside.rows.items c.row_of.result (g.P.Inx.BasePtrInx.number c.args.leaf) c.index-row.result.now _ c.row_of.ensures (omega (arith, h.row_there, c.row_of.ensures)) c.index-row.ensures in
    let within = c.requires in omega (arith, ap length row, h.size, ap length c.names.ensures, length-map c.index-row.result.now (λ (e : g.row.K.Denot × g.row.P-Inx.Denot). e.1), length-take (length c.index-row.result.now) c.names.result.now)

pub returns-then-at-eq0 : goal.returns-then-at-eq0
returns-then-at-eq0 g c =
    let first : c.args.at ≡ 0 = omega arith in
    ap (slice_get (entries_in c.args.self.now.leaves (g.P.Inx.BasePtrInx.number c.args.leaf))) first ∙ c.head.ensures ∙ ap (λ k. Some (k, g.P.Inx.BasePtrInx.number c.head.result.now.1)) (sym c.k_v.ensures.key) ∙ ap (λ i. Some (c.k_v.result.0.now, g.P.Inx.BasePtrInx.number i)) (sym c.k_v.ensures.value)

pub returns : goal.returns
returns g c =
    let h = is-here g.P.Inx.BasePtrInx.number c.self.inside.index c.self.inside.rows.items c.args.self.now c.self.view_is c.self.invariant _ _ c.len.ensures.sound (g.P.Inx.BasePtrInx.number c.args.leaf) (let within = c.requires in omega arith) in
    let row = row-read c.self.inside.rows.items c.row_of.result (g.P.Inx.BasePtrInx.number c.args.leaf) c.index-row.result.now _ c.row_of.ensures (omega (arith, h.row_there, c.row_of.ensures)) c.index-row.ensures in
    let within = c.requires in
    behind-head (entries_in c.args.self.now.leaves (g.P.Inx.BasePtrInx.number c.args.leaf)) _ _ c.args.at _ (h.entries ∙ ap (λ r. shown g.P.Inx.BasePtrInx.number h.item ∷ map (shown g.P.Inx.BasePtrInx.number) r) (sym row)) (omega arith)
    (read-both g.P.Inx.BasePtrInx.number c.index-row.result.now (c.args.at - 1) c.index-keys-at.result c.index-names-at.result c.keys.result.now c.names.result.now (omega (arith, ap length row, h.size)) c.keys.ensures c.names.ensures c.index-keys-at.is c.index-names-at.is)
