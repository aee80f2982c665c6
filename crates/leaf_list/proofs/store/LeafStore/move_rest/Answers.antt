use Rattle.std.proofs.Common.{◌≡◌, ◌-◌, ◌++◌, [], ◌∷◌, map, length, take, get_or, arith, ap, sym, subst, ◌∙◌}
use Rattle.std.proofs.lemmas.List.{with_items_is}
use Rattle.leaf_list.specs.{Parts.entries_in, Parts.with_entries, Layout.shown, Layout.leaves_of, Layout.AreStored}
use Rattle.leaf_list.proofs.{Storing.is-here, Filling.two-done}
use Rattle.leaf_list.proofs.Writing.{rest-kept, rest-came}
use Rattle.leaf_list.proofs.store.LeafStore.move_rest.Goals as goal

pub row_of-requires : goal.row_of-requires
row_of-requires g c =
    let h = is-here g.P.Inx.BasePtrInx.number c.self.inside.index c.self.inside.rows.items c.args.self.now c.self.view_is c.self.invariant _ _ c.len.ensures.sound (g.P.Inx.BasePtrInx.number c.args.from) c.requires.from in h.above

pub row_of-requires-2 : goal.row_of-requires-2
row_of-requires-2 g c =
    let l = is-here g.P.Inx.BasePtrInx.number c.self.inside.index c.self.inside.rows.items c.args.self.now c.self.view_is c.self.invariant _ _ c.len.ensures.sound (g.P.Inx.BasePtrInx.number c.args.to) c.requires.to in l.above

pub move_all-requires-clause-from : goal.move_all-requires-clause-from
move_all-requires-clause-from g c =
    let h = is-here g.P.Inx.BasePtrInx.number c.self.inside.index c.self.inside.rows.items c.args.self.now c.self.view_is c.self.invariant _ _ c.len.ensures.sound (g.P.Inx.BasePtrInx.number c.args.from) c.requires.from in
    omega (arith, h.row_there, c.row_of.ensures, ap length c.as_mut_slice.ensures.value)

pub move_all-requires-clause-to : goal.move_all-requires-clause-to
move_all-requires-clause-to g c =
    let l = is-here g.P.Inx.BasePtrInx.number c.self.inside.index c.self.inside.rows.items c.args.self.now c.self.view_is c.self.invariant _ _ c.len.ensures.sound (g.P.Inx.BasePtrInx.number c.args.to) c.requires.to in
    omega (arith, l.row_there, c.row_of-2.ensures, ap length c.as_mut_slice.ensures.value)

pub move_all-requires-clause-other : goal.move_all-requires-clause-other
move_all-requires-clause-other g c =
    λ same. c.requires.other (omega (arith, c.row_of.ensures, c.row_of-2.ensures, same))

pub move_all-requires-clause-room : goal.move_all-requires-clause-room
move_all-requires-clause-room g c =
    let h = is-here g.P.Inx.BasePtrInx.number c.self.inside.index c.self.inside.rows.items c.args.self.now c.self.view_is c.self.invariant _ _ c.len.ensures.sound (g.P.Inx.BasePtrInx.number c.args.from) c.requires.from in
    let l = is-here g.P.Inx.BasePtrInx.number c.self.inside.index c.self.inside.rows.items c.args.self.now c.self.view_is c.self.invariant _ _ c.len.ensures.sound (g.P.Inx.BasePtrInx.number c.args.to) c.requires.to in
    let at : c.row_of.result ≡ (g.P.Inx.BasePtrInx.number c.args.from) - 1 = omega (arith, c.row_of.ensures) in
    let at_too : c.row_of-2.result ≡ (g.P.Inx.BasePtrInx.number c.args.to) - 1 = omega (arith, c.row_of-2.ensures) in
    let row : get_or c.as_mut_slice.result.now c.row_of.result [] ≡ get_or c.self.inside.rows.items ((g.P.Inx.BasePtrInx.number c.args.from) - 1) [] = ap (λ l. get_or l c.row_of.result []) c.as_mut_slice.ensures.value ∙ ap (λ i. get_or c.self.inside.rows.items i []) at in
    let row_too : get_or c.as_mut_slice.result.now c.row_of-2.result [] ≡ get_or c.self.inside.rows.items ((g.P.Inx.BasePtrInx.number c.args.to) - 1) [] = ap (λ l. get_or l c.row_of-2.result []) c.as_mut_slice.ensures.value ∙ ap (λ i. get_or c.self.inside.rows.items i []) at_too in
    let room = c.requires.room in omega (arith, ap length row, ap length row_too, h.size, l.size)

pub invariant_of-self : goal.invariant_of-self
invariant_of-self g c =
    let is = with_items_is c.self.inside.rows c.move_all.new.rows (omega (arith, c.move_all.ensures.len, ap length c.as_mut_slice.ensures.value, c.self.inside.rows.ok.0)) in
    subst (AreStored c.self.inside.index) (sym is) (two-done g.P.Inx.BasePtrInx.number c.self.inside.index c.self.inside.rows.items c.args.self.now c.self.view_is c.self.invariant _ _ c.len.ensures.sound (g.P.Inx.BasePtrInx.number c.args.from) (g.P.Inx.BasePtrInx.number c.args.to) c.requires.from c.requires.to c.requires.other c.row_of.result c.row_of-2.result c.row_of.ensures c.row_of-2.ensures c.move_all.new.rows (c.move_all.ensures.len ∙ ap length c.as_mut_slice.ensures.value) (λ k apart other. c.move_all.ensures.others k apart other ∙ ap (λ l. get_or l k []) c.as_mut_slice.ensures.value)).stored

pub returns : goal.returns
returns g c =
    let h = is-here g.P.Inx.BasePtrInx.number c.self.inside.index c.self.inside.rows.items c.args.self.now c.self.view_is c.self.invariant _ _ c.len.ensures.sound (g.P.Inx.BasePtrInx.number c.args.from) c.requires.from in
    let l = is-here g.P.Inx.BasePtrInx.number c.self.inside.index c.self.inside.rows.items c.args.self.now c.self.view_is c.self.invariant _ _ c.len.ensures.sound (g.P.Inx.BasePtrInx.number c.args.to) c.requires.to in
    let at : c.row_of.result ≡ (g.P.Inx.BasePtrInx.number c.args.from) - 1 = omega (arith, c.row_of.ensures) in
    let at_too : c.row_of-2.result ≡ (g.P.Inx.BasePtrInx.number c.args.to) - 1 = omega (arith, c.row_of-2.ensures) in
    let row : get_or c.as_mut_slice.result.now c.row_of.result [] ≡ get_or c.self.inside.rows.items ((g.P.Inx.BasePtrInx.number c.args.from) - 1) [] = ap (λ l. get_or l c.row_of.result []) c.as_mut_slice.ensures.value ∙ ap (λ i. get_or c.self.inside.rows.items i []) at in
    let row_too : get_or c.as_mut_slice.result.now c.row_of-2.result [] ≡ get_or c.self.inside.rows.items ((g.P.Inx.BasePtrInx.number c.args.to) - 1) [] = ap (λ l. get_or l c.row_of-2.result []) c.as_mut_slice.ensures.value ∙ ap (λ i. get_or c.self.inside.rows.items i []) at_too in
    let is = with_items_is c.self.inside.rows c.move_all.new.rows (omega (arith, c.move_all.ensures.len, ap length c.as_mut_slice.ensures.value, c.self.inside.rows.ok.0)) in
    ap (leaves_of g.P.Inx.BasePtrInx.number c.self.inside.index) is ∙ (two-done g.P.Inx.BasePtrInx.number c.self.inside.index c.self.inside.rows.items c.args.self.now c.self.view_is c.self.invariant _ _ c.len.ensures.sound (g.P.Inx.BasePtrInx.number c.args.from) (g.P.Inx.BasePtrInx.number c.args.to) c.requires.from c.requires.to c.requires.other c.row_of.result c.row_of-2.result c.row_of.ensures c.row_of-2.ensures c.move_all.new.rows (c.move_all.ensures.len ∙ ap length c.as_mut_slice.ensures.value) (λ k apart other. c.move_all.ensures.others k apart other ∙ ap (λ l. get_or l k []) c.as_mut_slice.ensures.value)).view
    ∙ ap (λ es. record c.args.self.now { leaves = with_entries (with_entries c.args.self.now.leaves (g.P.Inx.BasePtrInx.number c.args.from) es) (g.P.Inx.BasePtrInx.number c.args.to) (shown g.P.Inx.BasePtrInx.number l.item ∷ map (shown g.P.Inx.BasePtrInx.number) (get_or c.move_all.new.rows ((g.P.Inx.BasePtrInx.number c.args.to) - 1) [])) }) (rest-kept g.P.Inx.BasePtrInx.number (entries_in c.args.self.now.leaves (g.P.Inx.BasePtrInx.number c.args.from)) h.item (get_or c.self.inside.rows.items ((g.P.Inx.BasePtrInx.number c.args.from) - 1) []) h.entries (get_or c.move_all.new.rows ((g.P.Inx.BasePtrInx.number c.args.from) - 1) []) (ap (λ i. get_or c.move_all.new.rows i []) (sym at) ∙ c.move_all.ensures.left))
    ∙ ap (λ es. record c.args.self.now { leaves = with_entries (with_entries c.args.self.now.leaves (g.P.Inx.BasePtrInx.number c.args.from) (take 1 (entries_in c.args.self.now.leaves (g.P.Inx.BasePtrInx.number c.args.from)))) (g.P.Inx.BasePtrInx.number c.args.to) es }) (rest-came g.P.Inx.BasePtrInx.number (entries_in c.args.self.now.leaves (g.P.Inx.BasePtrInx.number c.args.from)) h.item (get_or c.self.inside.rows.items ((g.P.Inx.BasePtrInx.number c.args.from) - 1) []) h.entries (entries_in c.args.self.now.leaves (g.P.Inx.BasePtrInx.number c.args.to)) l.item (get_or c.self.inside.rows.items ((g.P.Inx.BasePtrInx.number c.args.to) - 1) []) (get_or c.move_all.new.rows ((g.P.Inx.BasePtrInx.number c.args.to) - 1) []) l.entries (ap (λ i. get_or c.move_all.new.rows i []) (sym at_too) ∙ c.move_all.ensures.moved ∙ ap (λ r. r ++ get_or c.as_mut_slice.result.now c.row_of.result []) row_too ∙ ap (λ r. (get_or c.self.inside.rows.items ((g.P.Inx.BasePtrInx.number c.args.to) - 1) []) ++ r) row))
