use Rattle.std.proofs.Common.{sym}
use Rattle.sorted_arena.proofs.Ranging.{first_where-never}
use Rattle.sorted_arena.proofs.arena.SortedArena.first_past.Goals as goal

pub returns-in-Unbounded : goal.returns-in-Unbounded
returns-in-Unbounded g c = rw c.in-Unbounded.is (sym (first_where-never c.args.self.now.entries))
