use Rattle.std.proofs.Common.{◌≢◌}
use Rattle.std.specs.{List.AllAdjacentBelow, declared.cmp.Ordering.TheVariants.Greater}
use Rattle.sorted_arena.proofs.arena.extend.first_unsorted.Given as goal

abbrev pub invariant-loop-i : goal.invariant-loop-i
invariant-loop-i g l = AllAdjacentBelow (λ x y. g.K.Ord.cmp x.0 y.0 ≢ Greater) l.pairs l.i
