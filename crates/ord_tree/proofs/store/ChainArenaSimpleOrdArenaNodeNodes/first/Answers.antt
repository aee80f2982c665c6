use Rattle.ord_tree.proofs.Rebuilt.{first-occupied}
use Rattle.ord_tree.proofs.store.ChainArenaSimpleOrdArenaNodeNodes.first.Goals as goal

pub node_at-requires : goal.node_at-requires
node_at-requires g c = rw c.inx.ensures (first-occupied _ _ _ c.in_ok-p.ensures)
