use Rattle.std.proofs.Common.{◌∙◌}
use Rattle.leaf_list.proofs.{Cutting.entry_at-entries, Placing.has-leaf}
use Rattle.leaf_list.proofs.list.LeafList.entry.Goals as goal

pub entry-requires : goal.entry-requires
entry-requires g c =
    has-leaf c.self.inside.store.leaves (g.P.Inx.BasePtrInx.number c.args.p.leaf) c.args.p.at (rw (← c.self.view_is) at c.requires)

pub returns : goal.returns
returns g c =
    rw (← c.self.view_is) (entry_at-entries c.self.inside.store.leaves (g.P.Inx.BasePtrInx.number c.args.p.leaf) c.args.p.at ∙ c.entry.ensures)
