use Rattle.std.proofs.{Common.arith, lemmas.Grind.common_steps}
use Rattle.sorted_arena.proofs.Cutting.{first-least}
use Rattle.sorted_arena.proofs.arena.SortedArena.first.Goals as goal

pub returns : goal.returns
returns g c = rw c.pairs.ensures.view (record {
  value = c.first.ensures.value;
  least = first-least g.K.Ord.cmp g.met.K.Ord.total g.P.BasePtr.numbers c.first.result c.pairs.result.now.list.entries c.pairs.ensures.order.sorted c.first.ensures.value;
  none = grind (arith, common_steps);
  sound = rw c.pairs.ensures.view at c.pairs.ensures.sound;
})
