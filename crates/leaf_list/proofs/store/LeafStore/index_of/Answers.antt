use Rattle.std.proofs.Common.{◌∷◌, map, arith, ap, sym, ◌∙◌}
use Rattle.leaf_list.specs.{Parts.entries_in, Layout.shown}
use Rattle.leaf_list.proofs.{Storing.is-here, Writing.row-read}
use Rattle.leaf_list.proofs.Reading.{named-once, row-once, place-of, times-length}
use Rattle.leaf_list.proofs.store.LeafStore.index_of.Goals as goal

pub row_of-requires : goal.row_of-requires
row_of-requires g c =
    let h = is-here g.P.Inx.BasePtrInx.number c.self.inside.index c.self.inside.rows.items c.args.self.now c.self.view_is c.self.invariant _ _ c.len.ensures.sound (g.P.Inx.BasePtrInx.number c.args.leaf) (let once = c.requires.once in omega (arith, times-length (g.P.Inx.BasePtrInx.number c.args.name) (entries_in c.args.self.now.leaves (g.P.Inx.BasePtrInx.number c.args.leaf)))) in h.above

pub index-requires : goal.index-requires
index-requires g c =
    let h = is-here g.P.Inx.BasePtrInx.number c.self.inside.index c.self.inside.rows.items c.args.self.now c.self.view_is c.self.invariant _ _ c.len.ensures.sound (g.P.Inx.BasePtrInx.number c.args.leaf) (let once = c.requires.once in omega (arith, times-length (g.P.Inx.BasePtrInx.number c.args.name) (entries_in c.args.self.now.leaves (g.P.Inx.BasePtrInx.number c.args.leaf)))) in
    omega (arith, h.row_there, c.row_of.ensures, c.self.inside.rows.ok.0)

pub place-requires-clause-named : goal.place-requires-clause-named
place-requires-clause-named g c =
    c.requires.named

pub place-requires-clause-once : goal.place-requires-clause-once
place-requires-clause-once g c =
    λ i j one other. let h = is-here g.P.Inx.BasePtrInx.number c.self.inside.index c.self.inside.rows.items c.args.self.now c.self.view_is c.self.invariant _ _ c.len.ensures.sound (g.P.Inx.BasePtrInx.number c.args.leaf) (let once = c.requires.once in omega (arith, times-length (g.P.Inx.BasePtrInx.number c.args.name) (entries_in c.args.self.now.leaves (g.P.Inx.BasePtrInx.number c.args.leaf)))) in
    let row = row-read c.self.inside.rows.items c.row_of.result (g.P.Inx.BasePtrInx.number c.args.leaf) c.index.result.now _ c.row_of.ensures (omega (arith, h.row_there, c.row_of.ensures)) c.index.ensures in
    named-once g.P.Inx.BasePtrInx.number c.index.result.now i j (g.P.Inx.BasePtrInx.number c.args.name) (row-once g.P.Inx.BasePtrInx.number (entries_in c.args.self.now.leaves (g.P.Inx.BasePtrInx.number c.args.leaf)) h.item c.index.result.now (g.P.Inx.BasePtrInx.number c.args.name) (h.entries ∙ ap (λ r. shown g.P.Inx.BasePtrInx.number h.item ∷ map (shown g.P.Inx.BasePtrInx.number) r) (sym row)) c.requires.once) one other

pub returns : goal.returns
returns g c =
    let h = is-here g.P.Inx.BasePtrInx.number c.self.inside.index c.self.inside.rows.items c.args.self.now c.self.view_is c.self.invariant _ _ c.len.ensures.sound (g.P.Inx.BasePtrInx.number c.args.leaf) (let once = c.requires.once in omega (arith, times-length (g.P.Inx.BasePtrInx.number c.args.name) (entries_in c.args.self.now.leaves (g.P.Inx.BasePtrInx.number c.args.leaf)))) in
    let row = row-read c.self.inside.rows.items c.row_of.result (g.P.Inx.BasePtrInx.number c.args.leaf) c.index.result.now _ c.row_of.ensures (omega (arith, h.row_there, c.row_of.ensures)) c.index.ensures in
    place-of g.P.Inx.BasePtrInx.number (entries_in c.args.self.now.leaves (g.P.Inx.BasePtrInx.number c.args.leaf)) h.item c.index.result.now c.place.result (g.P.Inx.BasePtrInx.number c.args.name) (h.entries ∙ ap (λ r. shown g.P.Inx.BasePtrInx.number h.item ∷ map (shown g.P.Inx.BasePtrInx.number) r) (sym row)) c.requires.once c.place.ensures.found c.place.ensures.none
