use Rattle.std.proofs.Common.{option_map}
use Rattle.ord_tree.specs.TreeLinks.{with_child_at}
use Rattle.ord_tree.proofs.Entries.{Writes-entry}
use Rattle.ord_tree.proofs.store.ChainArenaSimpleOrdArenaNodeNodes.set_child.Goals as goal

pub returns : goal.returns
returns g c =
    rw (← c.get.ensures.value) (Writes-entry c.args.self.now _ _ _ c.pair_mut-pair.ensures.value c.set_child.ensures.item
    (with_child_at c.args.side (option_map g.P.Inx.BasePtrInx.number c.args.child))
    c.set_child.ensures.links)
