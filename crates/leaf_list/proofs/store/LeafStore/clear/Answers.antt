use Rattle.std.proofs.Common.{length, arith, ap, sym, subst, ◌∙◌}
use Rattle.std.proofs.lemmas.List.{with_items_is}
use Rattle.leaf_list.specs.Layout.{leaves_of, AreStored}
use Rattle.leaf_list.proofs.Rooming.{cleared-stored, cleared-view}
use Rattle.leaf_list.proofs.store.LeafStore.clear.Goals as goal

pub invariant_of-self : goal.invariant_of-self
invariant_of-self g c =
    let is = with_items_is c.self.inside.rows c.clear_rows.new.rows (omega (arith, c.clear_rows.ensures.len, ap length c.as_mut_slice.ensures.value, c.self.inside.rows.ok.0)) in
    subst (AreStored c.clear.new.self) (sym is) (cleared-stored g.P.Inx.BasePtrInx.number c.self.inside.index c.self.inside.rows.items c.args.self.now c.self.view_is c.self.invariant _ _ c.len.ensures.sound c.clear.new.self c.clear_rows.new.rows c.clear_rows.ensures.empty (c.clear_rows.ensures.len ∙ ap length c.as_mut_slice.ensures.value) (ap (λ a. a.list.entries) c.clear.ensures.after) (ap (λ a. a.list.capacity) c.clear.ensures.after) (ap (λ a. a.list.maximum) c.clear.ensures.after))

pub returns : goal.returns
returns g c =
    let is = with_items_is c.self.inside.rows c.clear_rows.new.rows (omega (arith, c.clear_rows.ensures.len, ap length c.as_mut_slice.ensures.value, c.self.inside.rows.ok.0)) in
    ap (leaves_of g.P.Inx.BasePtrInx.number c.clear.new.self) is ∙ cleared-view g.P.Inx.BasePtrInx.number c.self.inside.index c.self.inside.rows.items c.args.self.now c.self.view_is c.self.invariant _ _ c.len.ensures.sound c.clear.new.self c.clear_rows.new.rows c.clear_rows.ensures.empty (c.clear_rows.ensures.len ∙ ap length c.as_mut_slice.ensures.value) (ap (λ a. a.list.entries) c.clear.ensures.after) (ap (λ a. a.list.capacity) c.clear.ensures.after) (ap (λ a. a.list.maximum) c.clear.ensures.after)
