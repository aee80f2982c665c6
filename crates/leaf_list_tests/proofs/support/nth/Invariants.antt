use Rattle.std.specs.Option.{option_map}
use Rattle.leaf_list.specs.{Place.IsPlace}
use Rattle.leaf_list_tests.proofs.support.nth.Given as goal

abbrev pub invariant-loop-i : goal.invariant-loop-i
invariant-loop-i l = IsPlace l.list.leaves (option_map (λ p. (p.leaf, p.at)) l.at)
