use Rattle.std.proofs.Common.{Some, None, ap, sym, ◌∙◌}
use Rattle.leaf_list.proofs.Storing.{last-end}
use Rattle.leaf_list.proofs.store.LeafStore.last.Goals as goal

pub returns-in_default : goal.returns-in_default
returns-in_default g c = sym (last-end g.P.Inx.BasePtrInx.number g.P.BasePtr.numbers c.self.inside.index.list.entries c.self.inside.rows.items c.args.self.now.leaves None (ap (λ a. a.leaves) c.self.view_is) c.in_default.ensures.pointer)

pub returns : goal.returns
returns g c = ap Some c.inx.ensures ∙ sym (last-end g.P.Inx.BasePtrInx.number g.P.BasePtr.numbers c.self.inside.index.list.entries c.self.inside.rows.items c.args.self.now.leaves (Some c.in-Some.p) (ap (λ a. a.leaves) c.self.view_is) c.in-Some.ensures.pointer)
