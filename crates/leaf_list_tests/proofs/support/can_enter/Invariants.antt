use Rattle.std.proofs.Common.{◌≡◌, take}
use Rattle.std.specs.Option.{option_map}
use Rattle.leaf_list.specs.{Leaves.entries_of, Leaves.times, Place.IsPlaceOf}
use Rattle.leaf_list_tests.proofs.support.can_enter.Given as goal

-- the first entries have other names
abbrev pub invariant-loop-i : goal.invariant-loop-i
invariant-loop-i g l = record {
  place : IsPlaceOf l.list.leaves (option_map (λ p. (p.leaf, p.at)) l.at) l.i;
  none : times l.name (take l.i (entries_of l.list.leaves)) ≡ 0;
}
