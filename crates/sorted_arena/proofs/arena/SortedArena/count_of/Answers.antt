use Rattle.std.proofs.Common.{◌∙◌}
use Rattle.sorted_arena.proofs.Ranging.{count-equal}
use Rattle.sorted_arena.proofs.arena.SortedArena.count_of.Goals as goal

pub returns : goal.returns
returns g c = c.count_between.ensures ∙ count-equal g.K.Ord.cmp c.args.k.now c.args.self.now.entries
