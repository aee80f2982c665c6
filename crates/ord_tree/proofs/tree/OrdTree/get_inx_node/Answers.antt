use Rattle.ord_tree.proofs.Lookups.{slot-looked_up}
use Rattle.ord_tree.proofs.tree.OrdTree.get_inx_node.Goals as goal

pub returns : goal.returns
returns g c = slot-looked_up c.arena.ensures _ _ _ c.get_inx.ensures
