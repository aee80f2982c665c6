use Rattle.std.proofs.Common.{◌≡◌, ◌-◌, length, get_or, arith, ap, sym, refl, ◌∙◌}
use Rattle.std.specs.List.{insert}
use Rattle.leaf_list.specs.Parts.{entries_in, with_entries}
use Rattle.leaf_list.proofs.Storing.{is-here}
use Rattle.leaf_list.proofs.Filling.{same-item, row-done, both-done}
use Rattle.leaf_list.proofs.Writing.{row-read, put-head, put-row}
use Rattle.std.proofs.Common.{[]}
use Rattle.leaf_list.proofs.store.LeafStore.put.Goals as goal

pub row_of-row-requires : goal.row_of-row-requires
row_of-row-requires g c =
    let h = is-here g.P.Inx.BasePtrInx.number c.self.inside.index c.self.inside.rows.items c.args.self.now c.self.view_is c.self.invariant _ _ c.len.ensures.sound (g.P.Inx.BasePtrInx.number c.args.leaf) c.requires.leaf in h.above

pub pair_mut-head-requires : goal.pair_mut-head-requires
pair_mut-head-requires g c =
    let h = is-here g.P.Inx.BasePtrInx.number c.self.inside.index c.self.inside.rows.items c.args.self.now c.self.view_is c.self.invariant _ _ c.len.ensures.sound (g.P.Inx.BasePtrInx.number c.args.leaf) c.requires.leaf in rw h.there refl

pub index_mut-requires : goal.index_mut-requires
index_mut-requires g c =
    let h = is-here g.P.Inx.BasePtrInx.number c.self.inside.index c.self.inside.rows.items c.args.self.now c.self.view_is c.self.invariant _ _ c.len.ensures.sound (g.P.Inx.BasePtrInx.number c.args.leaf) c.requires.leaf in
    omega (arith, h.row_there, c.row_of-row.ensures, c.self.inside.rows.ok.0)

pub put-requires-clause-room : goal.put-requires-clause-room
put-requires-clause-room g c =
    let h = is-here g.P.Inx.BasePtrInx.number c.self.inside.index c.self.inside.rows.items c.args.self.now c.self.view_is c.self.invariant _ _ c.len.ensures.sound (g.P.Inx.BasePtrInx.number c.args.leaf) c.requires.leaf in
    let row = row-read c.self.inside.rows.items c.row_of-row.result (g.P.Inx.BasePtrInx.number c.args.leaf) c.index_mut.result.now _ c.row_of-row.ensures (omega (arith, h.row_there, c.row_of-row.ensures)) c.index_mut.ensures.value in
    let room = c.requires.room in omega (arith, ap length row, h.size)

pub invariant_of-self : goal.invariant_of-self
invariant_of-self g c =
    (both-done g.P.Inx.BasePtrInx.number c.self.inside.index c.self.inside.rows.items c.args.self.now c.self.view_is c.self.invariant _ _ c.len.ensures.sound (g.P.Inx.BasePtrInx.number c.args.leaf) c.requires.leaf c.row_of-row.result c.row_of-row.ensures c.put.new.self c.replace.new.dest).stored

pub index_mut-requires-else-at-eq0 : goal.index_mut-requires-else-at-eq0
index_mut-requires-else-at-eq0 g c =
    let h = is-here g.P.Inx.BasePtrInx.number c.self.inside.index c.self.inside.rows.items c.args.self.now c.self.view_is c.self.invariant _ _ c.len.ensures.sound (g.P.Inx.BasePtrInx.number c.args.leaf) c.requires.leaf in
    omega (arith, h.row_there, c.row_of-row.ensures, c.self.inside.rows.ok.0)

pub put-requires-else-at-eq0-clause-within : goal.put-requires-else-at-eq0-clause-within
put-requires-else-at-eq0-clause-within g c =
    let h = is-here g.P.Inx.BasePtrInx.number c.self.inside.index c.self.inside.rows.items c.args.self.now c.self.view_is c.self.invariant _ _ c.len.ensures.sound (g.P.Inx.BasePtrInx.number c.args.leaf) c.requires.leaf in
    let row = row-read c.self.inside.rows.items c.row_of-row.result (g.P.Inx.BasePtrInx.number c.args.leaf) c.index_mut-else-at-eq0.result.now _ c.row_of-row.ensures (omega (arith, h.row_there, c.row_of-row.ensures)) c.index_mut-else-at-eq0.ensures.value in
    let within = c.requires.within in omega (arith, ap length row, h.size)

pub put-requires-else-at-eq0-clause-room : goal.put-requires-else-at-eq0-clause-room
put-requires-else-at-eq0-clause-room g c =
    let h = is-here g.P.Inx.BasePtrInx.number c.self.inside.index c.self.inside.rows.items c.args.self.now c.self.view_is c.self.invariant _ _ c.len.ensures.sound (g.P.Inx.BasePtrInx.number c.args.leaf) c.requires.leaf in
    let row = row-read c.self.inside.rows.items c.row_of-row.result (g.P.Inx.BasePtrInx.number c.args.leaf) c.index_mut-else-at-eq0.result.now _ c.row_of-row.ensures (omega (arith, h.row_there, c.row_of-row.ensures)) c.index_mut-else-at-eq0.ensures.value in
    let room = c.requires.room in omega (arith, ap length row, h.size)

pub invariant_of-self-else-at-eq0 : goal.invariant_of-self-else-at-eq0
invariant_of-self-else-at-eq0 g c =
    (row-done g.P.Inx.BasePtrInx.number c.self.inside.index c.self.inside.rows.items c.args.self.now c.self.view_is c.self.invariant _ _ c.len.ensures.sound (g.P.Inx.BasePtrInx.number c.args.leaf) c.requires.leaf c.row_of-row.result c.row_of-row.ensures c.put-else-at-eq0.new.self).stored

pub returns-then-at-eq0 : goal.returns-then-at-eq0
returns-then-at-eq0 g c =
    let h = is-here g.P.Inx.BasePtrInx.number c.self.inside.index c.self.inside.rows.items c.args.self.now c.self.view_is c.self.invariant _ _ c.len.ensures.sound (g.P.Inx.BasePtrInx.number c.args.leaf) c.requires.leaf in
    let row = row-read c.self.inside.rows.items c.row_of-row.result (g.P.Inx.BasePtrInx.number c.args.leaf) c.index_mut.result.now _ c.row_of-row.ensures (omega (arith, h.row_there, c.row_of-row.ensures)) c.index_mut.ensures.value in
    let old = c.into_k_v-old.ensures ∙ c.replace.ensures.value ∙ same-item _ _ _ _ _ c.pair_mut-head.ensures.value h.there in
    let after = c.put.ensures ∙ ap (λ r. insert r 0 c.into_k_v-old.result) row ∙ ap (λ x. insert (get_or c.self.inside.rows.items ((g.P.Inx.BasePtrInx.number c.args.leaf) - 1) []) 0 x) old in
    let first : c.args.at ≡ 0 = omega arith in
    (both-done g.P.Inx.BasePtrInx.number c.self.inside.index c.self.inside.rows.items c.args.self.now c.self.view_is c.self.invariant _ _ c.len.ensures.sound (g.P.Inx.BasePtrInx.number c.args.leaf) c.requires.leaf c.row_of-row.result c.row_of-row.ensures c.put.new.self c.replace.new.dest).view
    ∙ ap (λ es. record c.args.self.now { leaves = with_entries c.args.self.now.leaves (g.P.Inx.BasePtrInx.number c.args.leaf) es })
    (put-head g.P.Inx.BasePtrInx.number (entries_in c.args.self.now.leaves (g.P.Inx.BasePtrInx.number c.args.leaf)) h.item (get_or c.self.inside.rows.items ((g.P.Inx.BasePtrInx.number c.args.leaf) - 1) []) h.entries c.replace.new.dest c.put.new.self after
    ∙ ap (λ x. insert (entries_in c.args.self.now.leaves (g.P.Inx.BasePtrInx.number c.args.leaf)) 0 (x.0, g.P.Inx.BasePtrInx.number x.1)) (c.replace.ensures.after ∙ c.new.ensures)
    ∙ ap (λ i. insert (entries_in c.args.self.now.leaves (g.P.Inx.BasePtrInx.number c.args.leaf)) i (c.args.k, g.P.Inx.BasePtrInx.number c.args.name)) (sym first))

pub returns-else-at-eq0 : goal.returns-else-at-eq0
returns-else-at-eq0 g c =
    let h = is-here g.P.Inx.BasePtrInx.number c.self.inside.index c.self.inside.rows.items c.args.self.now c.self.view_is c.self.invariant _ _ c.len.ensures.sound (g.P.Inx.BasePtrInx.number c.args.leaf) c.requires.leaf in
    let row = row-read c.self.inside.rows.items c.row_of-row.result (g.P.Inx.BasePtrInx.number c.args.leaf) c.index_mut-else-at-eq0.result.now _ c.row_of-row.ensures (omega (arith, h.row_there, c.row_of-row.ensures)) c.index_mut-else-at-eq0.ensures.value in
    let after = c.put-else-at-eq0.ensures ∙ ap (λ r. insert r (c.args.at - 1) (c.args.k, c.args.name)) row in
    (row-done g.P.Inx.BasePtrInx.number c.self.inside.index c.self.inside.rows.items c.args.self.now c.self.view_is c.self.invariant _ _ c.len.ensures.sound (g.P.Inx.BasePtrInx.number c.args.leaf) c.requires.leaf c.row_of-row.result c.row_of-row.ensures c.put-else-at-eq0.new.self).view
    ∙ ap (λ es. record c.args.self.now { leaves = with_entries c.args.self.now.leaves (g.P.Inx.BasePtrInx.number c.args.leaf) es })
    (put-row g.P.Inx.BasePtrInx.number (entries_in c.args.self.now.leaves (g.P.Inx.BasePtrInx.number c.args.leaf)) h.item (get_or c.self.inside.rows.items ((g.P.Inx.BasePtrInx.number c.args.leaf) - 1) []) h.entries (c.args.k, c.args.name) c.args.at c.put-else-at-eq0.new.self (omega arith) after)
