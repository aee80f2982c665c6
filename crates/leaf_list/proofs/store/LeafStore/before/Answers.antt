use Rattle.std.proofs.Common.{ap, sym, ◌∙◌}
use Rattle.leaf_list.proofs.Storing.{link-here, map-there, map-some, before-here}
use Rattle.leaf_list.proofs.store.LeafStore.before.Goals as goal

pub unwrap-requires : goal.unwrap-requires
unwrap-requires g c =
    let l = link-here g.P.Inx.BasePtrInx.number c.self.inside.index c.self.inside.rows.items c.args.self.now c.self.view_is c.self.invariant _ _ c.get_inx_link_no_gen.ensures.sound (g.P.Inx.BasePtrInx.number c.args.leaf) c.requires in map-there _ c.get_inx_link_no_gen.result _ (c.get_inx_link_no_gen.ensures.value ∙ l.there)

pub returns : goal.returns
returns g c =
    let l = link-here g.P.Inx.BasePtrInx.number c.self.inside.index c.self.inside.rows.items c.args.self.now c.self.view_is c.self.invariant _ _ c.get_inx_link_no_gen.ensures.sound (g.P.Inx.BasePtrInx.number c.args.leaf) c.requires in
    let read = map-some _ c.get_inx_link_no_gen.result c.unwrap.result _ c.unwrap.ensures (c.get_inx_link_no_gen.ensures.value ∙ l.there) in
    record { value = c.prev.ensures.value ∙ ap (λ e. e.1.prev) read ∙ sym (before-here g.P.Inx.BasePtrInx.number c.self.inside.index c.self.inside.rows.items c.args.self.now c.self.view_is c.self.invariant _ _ c.get_inx_link_no_gen.ensures.sound (g.P.Inx.BasePtrInx.number c.args.leaf) l.generation l.link l.there) }
