use Rattle.std.proofs.Common.{refl, arith}
use Rattle.sorted_arena.specs.Given.{given_entry}
use Rattle.sorted_arena.proofs.Ranging.{gives_in_order, gives_in_reverse}
use Rattle.sorted_arena.proofs.into.SortedArenaIntoIterator.into_iter.Goals as goal

pub returns : goal.returns
returns g c = record { into_iter_gives = (refl, record { runs = gives_in_order (given_entry g.P.BasePtr.numbers); runs_back = gives_in_reverse (given_entry g.P.BasePtr.numbers); fits = omega (arith, c.len.ensures.value) }) }
