use Rattle.std.proofs.Common.{rules}
use Rattle.ord_tree.proofs.tree.rebuild.MapNodeMapTakenSimpleOrdArenaNodeSimpleOrdArenaNode.map_taken.Goals as goal

pub returns-clause-step : goal.returns-clause-step
returns-clause-step g c = record {
  plain = c.map-plain.result;
  item = let value = c.map-plain.ensures.value in search rules;
  overflow = c.map-plain.ensures.overflow;
  called = rw c.leaf.ensures c.map_taken.ensures.step;
}
