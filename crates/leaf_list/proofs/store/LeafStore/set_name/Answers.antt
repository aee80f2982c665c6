use Rattle.std.proofs.Common.{◌≡◌, ◌-◌, [], ◌∷◌, map, length, get_or, set, arith, ap, sym, refl, ◌∙◌}
use Rattle.leaf_list.specs.Place.{renamed}
use Rattle.leaf_list.specs.{Parts.entries_in, Parts.with_entries, Layout.shown}
use Rattle.leaf_list.proofs.{Storing.is-here, Writing.row-read}
use Rattle.leaf_list.proofs.Filling.{row-done, head-done, same-item}
use Rattle.leaf_list.proofs.Writing.{name-head, name-row}
use Rattle.leaf_list.proofs.store.LeafStore.set_name.Goals as goal

pub pair_mut-head-requires : goal.pair_mut-head-requires
pair_mut-head-requires g c =
    let h = is-here g.P.Inx.BasePtrInx.number c.self.inside.index c.self.inside.rows.items c.args.self.now c.self.view_is c.self.invariant _ _ c.len.ensures.sound (g.P.Inx.BasePtrInx.number c.args.leaf) (let within = c.requires in omega arith) in rw h.there refl

pub row_of-requires : goal.row_of-requires
row_of-requires g c =
    let h = is-here g.P.Inx.BasePtrInx.number c.self.inside.index c.self.inside.rows.items c.args.self.now c.self.view_is c.self.invariant _ _ c.len.ensures.sound (g.P.Inx.BasePtrInx.number c.args.leaf) (let within = c.requires in omega arith) in h.above

pub index_mut-requires : goal.index_mut-requires
index_mut-requires g c =
    let h = is-here g.P.Inx.BasePtrInx.number c.self.inside.index c.self.inside.rows.items c.args.self.now c.self.view_is c.self.invariant _ _ c.len.ensures.sound (g.P.Inx.BasePtrInx.number c.args.leaf) (let within = c.requires in omega arith) in
    omega (arith, h.row_there, c.row_of.ensures, c.self.inside.rows.ok.0)

pub set_name-requires : goal.set_name-requires
set_name-requires g c =
    let h = is-here g.P.Inx.BasePtrInx.number c.self.inside.index c.self.inside.rows.items c.args.self.now c.self.view_is c.self.invariant _ _ c.len.ensures.sound (g.P.Inx.BasePtrInx.number c.args.leaf) (let within = c.requires in omega arith) in
    let row = row-read c.self.inside.rows.items c.row_of.result (g.P.Inx.BasePtrInx.number c.args.leaf) c.index_mut.result.now _ c.row_of.ensures (omega (arith, h.row_there, c.row_of.ensures)) c.index_mut.ensures.value in
    let within = c.requires in omega (arith, ap length row, h.size)

pub invariant_of-self : goal.invariant_of-self
invariant_of-self g c =
    (head-done g.P.Inx.BasePtrInx.number c.self.inside.index c.self.inside.rows.items c.args.self.now c.self.view_is c.self.invariant _ _ c.len.ensures.sound (g.P.Inx.BasePtrInx.number c.args.leaf) (let within = c.requires in omega arith) _).stored

pub invariant_of-self-else-at-eq0 : goal.invariant_of-self-else-at-eq0
invariant_of-self-else-at-eq0 g c =
    (row-done g.P.Inx.BasePtrInx.number c.self.inside.index c.self.inside.rows.items c.args.self.now c.self.view_is c.self.invariant _ _ c.len.ensures.sound (g.P.Inx.BasePtrInx.number c.args.leaf) (let within = c.requires in omega arith) c.row_of.result c.row_of.ensures c.set_name.new.self).stored

pub returns-then-at-eq0 : goal.returns-then-at-eq0
returns-then-at-eq0 g c =
    let h = is-here g.P.Inx.BasePtrInx.number c.self.inside.index c.self.inside.rows.items c.args.self.now c.self.view_is c.self.invariant _ _ c.len.ensures.sound (g.P.Inx.BasePtrInx.number c.args.leaf) (let within = c.requires in omega arith) in
    let first : c.args.at ≡ 0 = omega arith in
    (head-done g.P.Inx.BasePtrInx.number c.self.inside.index c.self.inside.rows.items c.args.self.now c.self.view_is c.self.invariant _ _ c.len.ensures.sound (g.P.Inx.BasePtrInx.number c.args.leaf) (let within = c.requires in omega arith) _).view
    ∙ ap (λ es. record c.args.self.now { leaves = with_entries c.args.self.now.leaves (g.P.Inx.BasePtrInx.number c.args.leaf) es })
    (ap (λ x. shown g.P.Inx.BasePtrInx.number x ∷ map (shown g.P.Inx.BasePtrInx.number) (get_or c.self.inside.rows.items ((g.P.Inx.BasePtrInx.number c.args.leaf) - 1) [])) c.set_value.ensures
    ∙ ap (λ x. (x.0, g.P.Inx.BasePtrInx.number c.args.name) ∷ map (shown g.P.Inx.BasePtrInx.number) (get_or c.self.inside.rows.items ((g.P.Inx.BasePtrInx.number c.args.leaf) - 1) [])) (same-item _ _ _ _ _ c.pair_mut-head.ensures.value h.there) ∙ name-head g.P.Inx.BasePtrInx.number (entries_in c.args.self.now.leaves (g.P.Inx.BasePtrInx.number c.args.leaf)) h.item (get_or c.self.inside.rows.items ((g.P.Inx.BasePtrInx.number c.args.leaf) - 1) []) h.entries c.args.name
    ∙ ap (λ i. renamed (entries_in c.args.self.now.leaves (g.P.Inx.BasePtrInx.number c.args.leaf)) i (g.P.Inx.BasePtrInx.number c.args.name)) (sym first))

pub returns-else-at-eq0 : goal.returns-else-at-eq0
returns-else-at-eq0 g c =
    let h = is-here g.P.Inx.BasePtrInx.number c.self.inside.index c.self.inside.rows.items c.args.self.now c.self.view_is c.self.invariant _ _ c.len.ensures.sound (g.P.Inx.BasePtrInx.number c.args.leaf) (let within = c.requires in omega arith) in
    let row = row-read c.self.inside.rows.items c.row_of.result (g.P.Inx.BasePtrInx.number c.args.leaf) c.index_mut.result.now _ c.row_of.ensures (omega (arith, h.row_there, c.row_of.ensures)) c.index_mut.ensures.value in
    let within = c.requires in
    (row-done g.P.Inx.BasePtrInx.number c.self.inside.index c.self.inside.rows.items c.args.self.now c.self.view_is c.self.invariant _ _ c.len.ensures.sound (g.P.Inx.BasePtrInx.number c.args.leaf) (let within = c.requires in omega arith) c.row_of.result c.row_of.ensures c.set_name.new.self).view
    ∙ ap (λ es. record c.args.self.now { leaves = with_entries c.args.self.now.leaves (g.P.Inx.BasePtrInx.number c.args.leaf) es })
    (name-row g.P.Inx.BasePtrInx.number (entries_in c.args.self.now.leaves (g.P.Inx.BasePtrInx.number c.args.leaf)) h.item (get_or c.self.inside.rows.items ((g.P.Inx.BasePtrInx.number c.args.leaf) - 1) []) h.entries c.args.name c.args.at c.set_name.new.self (omega arith) (omega (arith, h.size))
    (c.set_name.ensures.keys ∙ ap (map (λ e. e.0)) row) (c.set_name.ensures.names ∙ ap (λ r. set (map (λ e. e.1) r) (c.args.at - 1) c.args.name) row))
