use Rattle.std.proofs.Common.{refl, ap, option_map}
use Rattle.ord_tree.specs.Node.{entry_in}
use Rattle.ord_tree.proofs.Trees.{below-written_chain}
use Rattle.ord_tree.proofs.tree.write.ChainArenaSimpleOrdArenaNodeNodeItemsMut.node_item_mut.Goals as goal

pub returns : goal.returns
returns g c = (
  (refl, λ w. below-written_chain c.args.self.now _ _ w c.pair_mut-pair.ensures.value),
  record { writes_back = tt; value = ap (option_map entry_in) c.pair_mut-pair.ensures.value },
)
