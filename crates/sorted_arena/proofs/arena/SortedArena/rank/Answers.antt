use Rattle.std.proofs.Common.{◌∙◌}
use Rattle.sorted_arena.proofs.Entries.{count-below}
use Rattle.sorted_arena.proofs.arena.SortedArena.rank.Goals as goal

pub returns : goal.returns
returns g c = c.count_between.ensures ∙ count-below g.K.Ord.cmp c.args.k.now c.args.self.now.entries
