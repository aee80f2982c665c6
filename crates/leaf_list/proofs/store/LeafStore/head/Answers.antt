use Rattle.std.proofs.Common.{Some, slice_get, ap, sym, ◌∙◌}
use Rattle.leaf_list.proofs.Storing.{is-here, map-there, map-some}
use Rattle.leaf_list.proofs.store.LeafStore.head.Goals as goal

pub unwrap-requires : goal.unwrap-requires
unwrap-requires g c =
    let h = is-here g.P.Inx.BasePtrInx.number c.self.inside.index c.self.inside.rows.items c.args.self.now c.self.view_is c.self.invariant _ _ c.get_inx.ensures.sound (g.P.Inx.BasePtrInx.number c.args.leaf) c.requires in map-there _ c.get_inx.result _ (c.get_inx.ensures.value ∙ h.there)

pub returns : goal.returns
returns g c =
    let h = is-here g.P.Inx.BasePtrInx.number c.self.inside.index c.self.inside.rows.items c.args.self.now c.self.view_is c.self.invariant _ _ c.get_inx.ensures.sound (g.P.Inx.BasePtrInx.number c.args.leaf) c.requires in
    let read = map-some _ c.get_inx.result c.unwrap.result _ c.unwrap.ensures (c.get_inx.ensures.value ∙ h.there) in
    ap (λ es. slice_get es 0) h.entries ∙ ap (λ p. Some (p.1.0, g.P.Inx.BasePtrInx.number p.1.1)) (sym read)
