use Rattle.std.proofs.Common.{◌≡◌, ◌-◌, [], ◌∷◌, map, length, take, drop, get_or, arith, ap, sym, subst, ◌∙◌}
use Rattle.std.proofs.lemmas.List.{nil_from_length, with_items_is}
use Rattle.leaf_list.specs.{Parts.entries_in, Parts.with_entries, Layout.shown, Layout.leaves_of, Layout.AreStored}
use Rattle.leaf_list.proofs.{Storing.is-here, Filling.two-done}
use Rattle.leaf_list.proofs.Writing.{tail-kept, tail-came}
use Rattle.leaf_list.proofs.store.LeafStore.move_tail.Goals as goal

pub row_of-requires : goal.row_of-requires
row_of-requires g c =
    let h = is-here g.P.Inx.BasePtrInx.number c.self.inside.index c.self.inside.rows.items c.args.self.now c.self.view_is c.self.invariant _ _ c.len.ensures.sound (g.P.Inx.BasePtrInx.number c.args.from) (let some = c.requires.some in let within = c.requires.within in omega arith) in h.above

pub row_of-requires-2 : goal.row_of-requires-2
row_of-requires-2 g c =
    let l = is-here g.P.Inx.BasePtrInx.number c.self.inside.index c.self.inside.rows.items c.args.self.now c.self.view_is c.self.invariant _ _ c.len.ensures.sound (g.P.Inx.BasePtrInx.number c.args.to) (let to = c.requires.to in omega arith) in l.above

pub move_tail-requires-clause-from : goal.move_tail-requires-clause-from
move_tail-requires-clause-from g c =
    let h = is-here g.P.Inx.BasePtrInx.number c.self.inside.index c.self.inside.rows.items c.args.self.now c.self.view_is c.self.invariant _ _ c.len.ensures.sound (g.P.Inx.BasePtrInx.number c.args.from) (let some = c.requires.some in let within = c.requires.within in omega arith) in
    omega (arith, h.row_there, c.row_of.ensures, ap length c.as_mut_slice.ensures.value)

pub move_tail-requires-clause-to : goal.move_tail-requires-clause-to
move_tail-requires-clause-to g c =
    let l = is-here g.P.Inx.BasePtrInx.number c.self.inside.index c.self.inside.rows.items c.args.self.now c.self.view_is c.self.invariant _ _ c.len.ensures.sound (g.P.Inx.BasePtrInx.number c.args.to) (let to = c.requires.to in omega arith) in
    omega (arith, l.row_there, c.row_of-2.ensures, ap length c.as_mut_slice.ensures.value)

pub move_tail-requires-clause-other : goal.move_tail-requires-clause-other
move_tail-requires-clause-other g c =
    λ same. c.requires.other (omega (arith, c.row_of.ensures, c.row_of-2.ensures, same))

pub move_tail-requires-clause-within : goal.move_tail-requires-clause-within
move_tail-requires-clause-within g c =
    let h = is-here g.P.Inx.BasePtrInx.number c.self.inside.index c.self.inside.rows.items c.args.self.now c.self.view_is c.self.invariant _ _ c.len.ensures.sound (g.P.Inx.BasePtrInx.number c.args.from) (let some = c.requires.some in let within = c.requires.within in omega arith) in
    let at : c.row_of.result ≡ (g.P.Inx.BasePtrInx.number c.args.from) - 1 = omega (arith, c.row_of.ensures) in
    let row : get_or c.as_mut_slice.result.now c.row_of.result [] ≡ get_or c.self.inside.rows.items ((g.P.Inx.BasePtrInx.number c.args.from) - 1) [] = ap (λ l. get_or l c.row_of.result []) c.as_mut_slice.ensures.value ∙ ap (λ i. get_or c.self.inside.rows.items i []) at in
    let within = c.requires.within in omega (arith, ap length row, h.size)

pub move_tail-requires-clause-empty : goal.move_tail-requires-clause-empty
move_tail-requires-clause-empty g c =
    let l = is-here g.P.Inx.BasePtrInx.number c.self.inside.index c.self.inside.rows.items c.args.self.now c.self.view_is c.self.invariant _ _ c.len.ensures.sound (g.P.Inx.BasePtrInx.number c.args.to) (let to = c.requires.to in omega arith) in
    let at_too : c.row_of-2.result ≡ (g.P.Inx.BasePtrInx.number c.args.to) - 1 = omega (arith, c.row_of-2.ensures) in
    let row_too : get_or c.as_mut_slice.result.now c.row_of-2.result [] ≡ get_or c.self.inside.rows.items ((g.P.Inx.BasePtrInx.number c.args.to) - 1) [] = ap (λ l. get_or l c.row_of-2.result []) c.as_mut_slice.ensures.value ∙ ap (λ i. get_or c.self.inside.rows.items i []) at_too in
    nil_from_length _ (let to = c.requires.to in omega (arith, ap length row_too, l.size))

pub invariant_of-self : goal.invariant_of-self
invariant_of-self g c =
    let is = with_items_is c.self.inside.rows c.move_tail.new.rows (omega (arith, c.move_tail.ensures.len, ap length c.as_mut_slice.ensures.value, c.self.inside.rows.ok.0)) in
    subst (AreStored c.self.inside.index) (sym is) (two-done g.P.Inx.BasePtrInx.number c.self.inside.index c.self.inside.rows.items c.args.self.now c.self.view_is c.self.invariant _ _ c.len.ensures.sound (g.P.Inx.BasePtrInx.number c.args.from) (g.P.Inx.BasePtrInx.number c.args.to) (let some = c.requires.some in let within = c.requires.within in omega arith) (let to = c.requires.to in omega arith) c.requires.other c.row_of.result c.row_of-2.result c.row_of.ensures c.row_of-2.ensures c.move_tail.new.rows (c.move_tail.ensures.len ∙ ap length c.as_mut_slice.ensures.value) (λ k apart other. c.move_tail.ensures.others k apart other ∙ ap (λ l. get_or l k []) c.as_mut_slice.ensures.value)).stored

pub returns : goal.returns
returns g c =
    let h = is-here g.P.Inx.BasePtrInx.number c.self.inside.index c.self.inside.rows.items c.args.self.now c.self.view_is c.self.invariant _ _ c.len.ensures.sound (g.P.Inx.BasePtrInx.number c.args.from) (let some = c.requires.some in let within = c.requires.within in omega arith) in
    let l = is-here g.P.Inx.BasePtrInx.number c.self.inside.index c.self.inside.rows.items c.args.self.now c.self.view_is c.self.invariant _ _ c.len.ensures.sound (g.P.Inx.BasePtrInx.number c.args.to) (let to = c.requires.to in omega arith) in
    let at : c.row_of.result ≡ (g.P.Inx.BasePtrInx.number c.args.from) - 1 = omega (arith, c.row_of.ensures) in
    let at_too : c.row_of-2.result ≡ (g.P.Inx.BasePtrInx.number c.args.to) - 1 = omega (arith, c.row_of-2.ensures) in
    let row : get_or c.as_mut_slice.result.now c.row_of.result [] ≡ get_or c.self.inside.rows.items ((g.P.Inx.BasePtrInx.number c.args.from) - 1) [] = ap (λ l. get_or l c.row_of.result []) c.as_mut_slice.ensures.value ∙ ap (λ i. get_or c.self.inside.rows.items i []) at in
    let row_too : get_or c.as_mut_slice.result.now c.row_of-2.result [] ≡ get_or c.self.inside.rows.items ((g.P.Inx.BasePtrInx.number c.args.to) - 1) [] = ap (λ l. get_or l c.row_of-2.result []) c.as_mut_slice.ensures.value ∙ ap (λ i. get_or c.self.inside.rows.items i []) at_too in
    let is = with_items_is c.self.inside.rows c.move_tail.new.rows (omega (arith, c.move_tail.ensures.len, ap length c.as_mut_slice.ensures.value, c.self.inside.rows.ok.0)) in
    ap (leaves_of g.P.Inx.BasePtrInx.number c.self.inside.index) is ∙ (two-done g.P.Inx.BasePtrInx.number c.self.inside.index c.self.inside.rows.items c.args.self.now c.self.view_is c.self.invariant _ _ c.len.ensures.sound (g.P.Inx.BasePtrInx.number c.args.from) (g.P.Inx.BasePtrInx.number c.args.to) (let some = c.requires.some in let within = c.requires.within in omega arith) (let to = c.requires.to in omega arith) c.requires.other c.row_of.result c.row_of-2.result c.row_of.ensures c.row_of-2.ensures c.move_tail.new.rows (c.move_tail.ensures.len ∙ ap length c.as_mut_slice.ensures.value) (λ k apart other. c.move_tail.ensures.others k apart other ∙ ap (λ l. get_or l k []) c.as_mut_slice.ensures.value)).view
    ∙ ap (λ es. record c.args.self.now { leaves = with_entries (with_entries c.args.self.now.leaves (g.P.Inx.BasePtrInx.number c.args.from) es) (g.P.Inx.BasePtrInx.number c.args.to) (shown g.P.Inx.BasePtrInx.number l.item ∷ map (shown g.P.Inx.BasePtrInx.number) (get_or c.move_tail.new.rows ((g.P.Inx.BasePtrInx.number c.args.to) - 1) [])) }) (tail-kept g.P.Inx.BasePtrInx.number (entries_in c.args.self.now.leaves (g.P.Inx.BasePtrInx.number c.args.from)) h.item (get_or c.self.inside.rows.items ((g.P.Inx.BasePtrInx.number c.args.from) - 1) []) h.entries c.args.at (get_or c.move_tail.new.rows ((g.P.Inx.BasePtrInx.number c.args.from) - 1) []) c.requires.some (ap (λ i. get_or c.move_tail.new.rows i []) (sym at) ∙ c.move_tail.ensures.left ∙ ap (take (c.args.at - 1)) row))
    ∙ ap (λ es. record c.args.self.now { leaves = with_entries (with_entries c.args.self.now.leaves (g.P.Inx.BasePtrInx.number c.args.from) (take c.args.at (entries_in c.args.self.now.leaves (g.P.Inx.BasePtrInx.number c.args.from)))) (g.P.Inx.BasePtrInx.number c.args.to) es }) (tail-came g.P.Inx.BasePtrInx.number (entries_in c.args.self.now.leaves (g.P.Inx.BasePtrInx.number c.args.from)) h.item (get_or c.self.inside.rows.items ((g.P.Inx.BasePtrInx.number c.args.from) - 1) []) h.entries c.args.at (entries_in c.args.self.now.leaves (g.P.Inx.BasePtrInx.number c.args.to)) l.item (get_or c.self.inside.rows.items ((g.P.Inx.BasePtrInx.number c.args.to) - 1) []) (get_or c.move_tail.new.rows ((g.P.Inx.BasePtrInx.number c.args.to) - 1) []) c.requires.some l.entries (nil_from_length _ (let to = c.requires.to in omega (arith, l.size))) (ap (λ i. get_or c.move_tail.new.rows i []) (sym at_too) ∙ c.move_tail.ensures.moved ∙ ap (drop (c.args.at - 1)) row))
