use Rattle.ord_tree.proofs.Lookups.{slot-occupied, slot-shown}
use Rattle.ord_tree.proofs.tree.OrdTree.entry.Goals as goal

pub entry-requires : goal.entry-requires
entry-requires g c = slot-occupied c.arena.ensures _ c.requires

pub returns : goal.returns
returns g c = slot-shown c.arena.ensures _ _ _ c.entry.ensures.value
