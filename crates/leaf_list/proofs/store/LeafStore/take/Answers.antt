use Rattle.std.proofs.Common.{◌≡◌, ◌-◌, Some, length, get_or, slice_get, arith, ap, sym, refl, ◌∙◌}
use Rattle.std.specs.List.{remove}
use Rattle.leaf_list.specs.Parts.{entries_in, with_entries}
use Rattle.leaf_list.proofs.Storing.{is-here}
use Rattle.leaf_list.proofs.Filling.{same-item, row-done, both-done}
use Rattle.leaf_list.proofs.Writing.{row-read, take-head, taken-head, take-row, taken-row}
use Rattle.std.proofs.Common.{[]}
use Rattle.leaf_list.proofs.store.LeafStore.take.Goals as goal

pub row_of-row-requires : goal.row_of-row-requires
row_of-row-requires g c =
    let h = is-here g.P.Inx.BasePtrInx.number c.self.inside.index c.self.inside.rows.items c.args.self.now c.self.view_is c.self.invariant _ _ c.len.ensures.sound (g.P.Inx.BasePtrInx.number c.args.leaf) (omega (arith, c.requires.more)) in h.above

pub index_mut-requires : goal.index_mut-requires
index_mut-requires g c =
    let h = is-here g.P.Inx.BasePtrInx.number c.self.inside.index c.self.inside.rows.items c.args.self.now c.self.view_is c.self.invariant _ _ c.len.ensures.sound (g.P.Inx.BasePtrInx.number c.args.leaf) (omega (arith, c.requires.more)) in
    omega (arith, h.row_there, c.row_of-row.ensures, c.self.inside.rows.ok.0)

pub take-k-requires : goal.take-k-requires
take-k-requires g c =
    let h = is-here g.P.Inx.BasePtrInx.number c.self.inside.index c.self.inside.rows.items c.args.self.now c.self.view_is c.self.invariant _ _ c.len.ensures.sound (g.P.Inx.BasePtrInx.number c.args.leaf) (omega (arith, c.requires.more)) in
    let row = row-read c.self.inside.rows.items c.row_of-row.result (g.P.Inx.BasePtrInx.number c.args.leaf) c.index_mut.result.now _ c.row_of-row.ensures (omega (arith, h.row_there, c.row_of-row.ensures)) c.index_mut.ensures.value in
    let more = c.requires.more in omega (arith, ap length row, h.size)

pub pair_mut-head-requires : goal.pair_mut-head-requires
pair_mut-head-requires g c =
    let h = is-here g.P.Inx.BasePtrInx.number c.self.inside.index c.self.inside.rows.items c.args.self.now c.self.view_is c.self.invariant _ _ c.len.ensures.sound (g.P.Inx.BasePtrInx.number c.args.leaf) (omega (arith, c.requires.more)) in rw h.there refl

pub invariant_of-self : goal.invariant_of-self
invariant_of-self g c =
    (both-done g.P.Inx.BasePtrInx.number c.self.inside.index c.self.inside.rows.items c.args.self.now c.self.view_is c.self.invariant _ _ c.len.ensures.sound (g.P.Inx.BasePtrInx.number c.args.leaf) (omega (arith, c.requires.more)) c.row_of-row.result c.row_of-row.ensures c.take-k.new.self c.replace.new.dest).stored

pub index_mut-requires-else-at-eq0 : goal.index_mut-requires-else-at-eq0
index_mut-requires-else-at-eq0 g c =
    let h = is-here g.P.Inx.BasePtrInx.number c.self.inside.index c.self.inside.rows.items c.args.self.now c.self.view_is c.self.invariant _ _ c.len.ensures.sound (g.P.Inx.BasePtrInx.number c.args.leaf) (omega (arith, c.requires.more)) in
    omega (arith, h.row_there, c.row_of-row.ensures, c.self.inside.rows.ok.0)

pub take-requires : goal.take-requires
take-requires g c =
    let h = is-here g.P.Inx.BasePtrInx.number c.self.inside.index c.self.inside.rows.items c.args.self.now c.self.view_is c.self.invariant _ _ c.len.ensures.sound (g.P.Inx.BasePtrInx.number c.args.leaf) (omega (arith, c.requires.more)) in
    let row = row-read c.self.inside.rows.items c.row_of-row.result (g.P.Inx.BasePtrInx.number c.args.leaf) c.index_mut-else-at-eq0.result.now _ c.row_of-row.ensures (omega (arith, h.row_there, c.row_of-row.ensures)) c.index_mut-else-at-eq0.ensures.value in
    let within = c.requires.within in omega (arith, ap length row, h.size)

pub invariant_of-self-else-at-eq0 : goal.invariant_of-self-else-at-eq0
invariant_of-self-else-at-eq0 g c =
    (row-done g.P.Inx.BasePtrInx.number c.self.inside.index c.self.inside.rows.items c.args.self.now c.self.view_is c.self.invariant _ _ c.len.ensures.sound (g.P.Inx.BasePtrInx.number c.args.leaf) (omega (arith, c.requires.more)) c.row_of-row.result c.row_of-row.ensures c.take.new.self).stored

pub returns-then-at-eq0-clause-entry : goal.returns-then-at-eq0-clause-entry
returns-then-at-eq0-clause-entry g c =
    let h = is-here g.P.Inx.BasePtrInx.number c.self.inside.index c.self.inside.rows.items c.args.self.now c.self.view_is c.self.invariant _ _ c.len.ensures.sound (g.P.Inx.BasePtrInx.number c.args.leaf) (omega (arith, c.requires.more)) in
    let first : c.args.at ≡ 0 = omega arith in
    let old = c.into_k_v.ensures ∙ c.replace.ensures.value ∙ same-item _ _ _ _ _ c.pair_mut-head.ensures.value h.there in
    ap (slice_get (entries_in c.args.self.now.leaves (g.P.Inx.BasePtrInx.number c.args.leaf))) first
    ∙ taken-head g.P.Inx.BasePtrInx.number (entries_in c.args.self.now.leaves (g.P.Inx.BasePtrInx.number c.args.leaf)) h.item (get_or c.self.inside.rows.items ((g.P.Inx.BasePtrInx.number c.args.leaf) - 1) []) h.entries ∙ ap (λ x. Some (x.0, g.P.Inx.BasePtrInx.number x.1)) (sym old)

pub returns-then-at-eq0-clause-rest : goal.returns-then-at-eq0-clause-rest
returns-then-at-eq0-clause-rest g c =
    let h = is-here g.P.Inx.BasePtrInx.number c.self.inside.index c.self.inside.rows.items c.args.self.now c.self.view_is c.self.invariant _ _ c.len.ensures.sound (g.P.Inx.BasePtrInx.number c.args.leaf) (omega (arith, c.requires.more)) in
    let row = row-read c.self.inside.rows.items c.row_of-row.result (g.P.Inx.BasePtrInx.number c.args.leaf) c.index_mut.result.now _ c.row_of-row.ensures (omega (arith, h.row_there, c.row_of-row.ensures)) c.index_mut.ensures.value in
    let first : c.args.at ≡ 0 = omega arith in
    let put = c.replace.ensures.after ∙ c.new.ensures in
    let here = ap (λ r. slice_get r 0) (sym row) ∙ c.take-k.ensures.entry ∙ ap Some (sym put) in
    (both-done g.P.Inx.BasePtrInx.number c.self.inside.index c.self.inside.rows.items c.args.self.now c.self.view_is c.self.invariant _ _ c.len.ensures.sound (g.P.Inx.BasePtrInx.number c.args.leaf) (omega (arith, c.requires.more)) c.row_of-row.result c.row_of-row.ensures c.take-k.new.self c.replace.new.dest).view
    ∙ ap (λ es. record c.args.self.now { leaves = with_entries c.args.self.now.leaves (g.P.Inx.BasePtrInx.number c.args.leaf) es })
    (take-head g.P.Inx.BasePtrInx.number (entries_in c.args.self.now.leaves (g.P.Inx.BasePtrInx.number c.args.leaf)) h.item (get_or c.self.inside.rows.items ((g.P.Inx.BasePtrInx.number c.args.leaf) - 1) []) h.entries c.replace.new.dest c.take-k.new.self here
    (c.take-k.ensures.rest ∙ ap (λ r. remove r 0) row) ∙ ap (λ i. remove (entries_in c.args.self.now.leaves (g.P.Inx.BasePtrInx.number c.args.leaf)) i) (sym first))

pub returns-else-at-eq0-clause-entry : goal.returns-else-at-eq0-clause-entry
returns-else-at-eq0-clause-entry g c =
    let h = is-here g.P.Inx.BasePtrInx.number c.self.inside.index c.self.inside.rows.items c.args.self.now c.self.view_is c.self.invariant _ _ c.len.ensures.sound (g.P.Inx.BasePtrInx.number c.args.leaf) (omega (arith, c.requires.more)) in
    let row = row-read c.self.inside.rows.items c.row_of-row.result (g.P.Inx.BasePtrInx.number c.args.leaf) c.index_mut-else-at-eq0.result.now _ c.row_of-row.ensures (omega (arith, h.row_there, c.row_of-row.ensures)) c.index_mut-else-at-eq0.ensures.value in
    taken-row g.P.Inx.BasePtrInx.number (entries_in c.args.self.now.leaves (g.P.Inx.BasePtrInx.number c.args.leaf)) h.item (get_or c.self.inside.rows.items ((g.P.Inx.BasePtrInx.number c.args.leaf) - 1) []) h.entries c.take.result c.args.at (omega arith)
    (ap (λ r. slice_get r (c.args.at - 1)) (sym row) ∙ c.take.ensures.entry)

pub returns-else-at-eq0-clause-rest : goal.returns-else-at-eq0-clause-rest
returns-else-at-eq0-clause-rest g c =
    let h = is-here g.P.Inx.BasePtrInx.number c.self.inside.index c.self.inside.rows.items c.args.self.now c.self.view_is c.self.invariant _ _ c.len.ensures.sound (g.P.Inx.BasePtrInx.number c.args.leaf) (omega (arith, c.requires.more)) in
    let row = row-read c.self.inside.rows.items c.row_of-row.result (g.P.Inx.BasePtrInx.number c.args.leaf) c.index_mut-else-at-eq0.result.now _ c.row_of-row.ensures (omega (arith, h.row_there, c.row_of-row.ensures)) c.index_mut-else-at-eq0.ensures.value in
    (row-done g.P.Inx.BasePtrInx.number c.self.inside.index c.self.inside.rows.items c.args.self.now c.self.view_is c.self.invariant _ _ c.len.ensures.sound (g.P.Inx.BasePtrInx.number c.args.leaf) (omega (arith, c.requires.more)) c.row_of-row.result c.row_of-row.ensures c.take.new.self).view
    ∙ ap (λ es. record c.args.self.now { leaves = with_entries c.args.self.now.leaves (g.P.Inx.BasePtrInx.number c.args.leaf) es })
    (take-row g.P.Inx.BasePtrInx.number (entries_in c.args.self.now.leaves (g.P.Inx.BasePtrInx.number c.args.leaf)) h.item (get_or c.self.inside.rows.items ((g.P.Inx.BasePtrInx.number c.args.leaf) - 1) []) h.entries c.args.at c.take.new.self (omega arith)
    (c.take.ensures.rest ∙ ap (λ r. remove r (c.args.at - 1)) row))
