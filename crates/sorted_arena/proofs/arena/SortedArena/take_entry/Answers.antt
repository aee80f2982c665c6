use Rattle.std.proofs.Common.{ap}
use Rattle.std.specs.Option.{option_map}
use Rattle.sorted_arena.proofs.arena.SortedArena.take_entry.Goals as goal

pub returns-clause-named : goal.returns-clause-named
returns-clause-named g c = ap (option_map g.P.BasePtr.numbers) c.unwrap-p.ensures
