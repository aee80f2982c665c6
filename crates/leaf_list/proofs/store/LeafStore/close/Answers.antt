use Rattle.std.proofs.Common.{Some, slice_get, arith, ap, sym, ◌∙◌}
use Rattle.std.proofs.lemmas.List.{nil_from_length}
use Rattle.leaf_list.proofs.Storing.{is-here, map-there, map-some}
use Rattle.leaf_list.proofs.Coming.{gone-stored, gone-view, on-some}
use Rattle.leaf_list.proofs.store.LeafStore.close.Goals as goal

pub unwrap-head-requires : goal.unwrap-head-requires
unwrap-head-requires g c =
    let h = is-here g.P.Inx.BasePtrInx.number c.self.inside.index c.self.inside.rows.items c.args.self.now c.self.view_is c.self.invariant _ _ c.len.ensures.sound (g.P.Inx.BasePtrInx.number c.args.leaf) (let one = c.requires in omega arith) in rw c.allow.ensures (map-there _ _ _ (c.remove_inx.ensures.removal.value ∙ h.there))

pub invariant_of-self : goal.invariant_of-self
invariant_of-self g c =
    let h = is-here g.P.Inx.BasePtrInx.number c.self.inside.index c.self.inside.rows.items c.args.self.now c.self.view_is c.self.invariant _ _ c.len.ensures.sound (g.P.Inx.BasePtrInx.number c.args.leaf) (let one = c.requires in omega arith) in
    let after = on-some _ _ (sym c.allow.ensures ∙ c.unwrap-head.ensures) c.remove_inx.ensures.removal.removed in
    gone-stored g.P.Inx.BasePtrInx.number c.self.inside.index c.self.inside.rows.items c.args.self.now c.self.view_is c.self.invariant c.remove_inx.new.self (g.P.Inx.BasePtrInx.number c.args.leaf) (ap (λ l. l.entries) after) (ap (λ l. l.capacity) after) (ap (λ l. l.maximum) after) h.above (nil_from_length _ (let one = c.requires in let size = h.size in omega arith))

pub returns-clause-entry : goal.returns-clause-entry
returns-clause-entry g c =
    let h = is-here g.P.Inx.BasePtrInx.number c.self.inside.index c.self.inside.rows.items c.args.self.now c.self.view_is c.self.invariant _ _ c.len.ensures.sound (g.P.Inx.BasePtrInx.number c.args.leaf) (let one = c.requires in omega arith) in
    let read = map-some _ _ c.unwrap-head.result _ (sym c.allow.ensures ∙ c.unwrap-head.ensures) (c.remove_inx.ensures.removal.value ∙ h.there) in
    ap (λ es. slice_get es 0) h.entries ∙ ap (λ p. Some (p.1.0, g.P.Inx.BasePtrInx.number p.1.1)) (sym read) ∙ ap (λ x. Some (x.0, g.P.Inx.BasePtrInx.number x.1)) (sym c.into_k_v.ensures)

pub returns-clause-leaves : goal.returns-clause-leaves
returns-clause-leaves g c =
    let h = is-here g.P.Inx.BasePtrInx.number c.self.inside.index c.self.inside.rows.items c.args.self.now c.self.view_is c.self.invariant _ _ c.len.ensures.sound (g.P.Inx.BasePtrInx.number c.args.leaf) (let one = c.requires in omega arith) in
    let after = on-some _ _ (sym c.allow.ensures ∙ c.unwrap-head.ensures) c.remove_inx.ensures.removal.removed in
    gone-view g.P.Inx.BasePtrInx.number c.self.inside.index c.self.inside.rows.items c.args.self.now c.self.view_is c.self.invariant c.remove_inx.new.self (g.P.Inx.BasePtrInx.number c.args.leaf) (ap (λ l. l.entries) after) (ap (λ l. l.capacity) after) (ap (λ l. l.maximum) after) h.above (nil_from_length _ (let one = c.requires in let size = h.size in omega arith))
