use Rattle.std.proofs.Common.{◌≡◌, ℕ, ◌+◌, ◌-◌, ◌*◌, ◌^◌, ◌<◌, ◌≤◌, true, false, length}
use Rattle.std.specs.List.Sorted.{IsPartitionPoint}
use Rattle.leaf_row.specs.Before.{is_passed}
use Rattle.leaf_row.proofs.search.count_within.Given as goal

-- the place is within the stretch that is left, which each comparison halves
abbrev pub invariant-loop-size : goal.invariant-loop-size
invariant-loop-size g l = record {
  some : 0 < l.size;
  short : l.base + l.size ≤ l.span;
  within : l.base ≤ length l.keys;
  place : (q : ℕ) → q ≤ length l.keys
      → IsPartitionPoint (λ y. is_passed l.with_equals (g.K.Ord.cmp l.k y) ≡ true)
      (λ y. is_passed l.with_equals (g.K.Ord.cmp l.k y) ≡ false) l.keys q → (l.base ≤ q) × (q < l.base + l.size);
  steps : l.visits + l.size ≤ l.span;
  halved : 2 ^ l.visits * (l.size - 1) ≤ l.span - 1;
  few : 1 < l.span → 2 ^ l.visits ≤ 2 * (l.span - 1);
}

abbrev pub decreases-loop-size : goal.decreases-loop-size
decreases-loop-size g l = l.size
