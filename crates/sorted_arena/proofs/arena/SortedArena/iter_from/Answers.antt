use Rattle.std.proofs.Common.{rules}
use Rattle.sorted_arena.proofs.Stretching.{tail-stretch}
use Rattle.sorted_arena.proofs.arena.SortedArena.iter_from.Goals as goal

pub from_until-requires : goal.from_until-requires
from_until-requires g c sound = tail-stretch c.args.self.now.entries (g.P.BasePtr.numbers c.args.p) sound.distinct (search rules)
