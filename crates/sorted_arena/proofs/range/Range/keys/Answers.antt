use Rattle.std.proofs.lemmas.List.{length-map}
use Rattle.sorted_arena.proofs.Ranging.{gives_in_order, gives_in_reverse}
use Rattle.sorted_arena.proofs.range.Range.keys.Goals as goal

pub returns-clause-chains : goal.returns-clause-chains
returns-clause-chains g c = record { runs = gives_in_order _; runs_back = gives_in_reverse _; fits = length-map _ _ }
