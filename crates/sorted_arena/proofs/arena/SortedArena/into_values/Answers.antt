use Rattle.std.proofs.Common.{arith}
use Rattle.std.proofs.lemmas.List.{length-map}
use Rattle.sorted_arena.specs.Sorted.{value_of}
use Rattle.sorted_arena.proofs.Ranging.{gives_in_order, gives_in_reverse}
use Rattle.sorted_arena.proofs.arena.SortedArena.into_values.Goals as goal

pub returns-clause-chains : goal.returns-clause-chains
returns-clause-chains g c = record {
  runs = gives_in_order (λ (x : g.row.V.Denot). x);
  runs_back = gives_in_reverse (λ (x : g.row.V.Denot). x);
  fits = omega (arith, length-map c.into_iter.result (value_of {K = g.row.K.Denot} {V = g.row.V.Denot}), c.into_iter.ensures.into_iter_gives.1.fits);
}
