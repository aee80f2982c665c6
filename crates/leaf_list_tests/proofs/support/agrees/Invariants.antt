use Rattle.std.specs.Option.{option_map}
use Rattle.leaf_list.specs.{Place.IsPlace}
use Rattle.leaf_list_tests.proofs.support.agrees.Given as goal

abbrev pub invariant-loop-entry : goal.invariant-loop-entry
invariant-loop-entry g l = IsPlace l.list.leaves (option_map (λ p. (p.leaf, p.at)) l.at)
