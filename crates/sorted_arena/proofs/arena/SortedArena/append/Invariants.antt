use Rattle.std.proofs.Common.{◌≡◌, ℕ, ◌+◌, ◌≤◌, map}
use Rattle.listing.specs.{PlainArena.capacity_for, Steps.IsStep}
use Rattle.sorted_arena.specs.{Merge.merged, Sorted.count, Sorted.pair_of, Sorted.Keeps}
use Rattle.sorted_arena.proofs.Removing.{RemovesMany}
use Rattle.sorted_arena.proofs.arena.SortedArena.append.Given as goal

-- what is merged so far makes with the others what all make, and there is room for these
abbrev pub invariant-loop-k : goal.invariant-loop-k
invariant-loop-k g l = record {
  merges : merged g.K.Ord.cmp (map pair_of l.self.entries) (map pair_of l.other.entries) ≡ merged g.K.Ord.cmp (map pair_of l.fn.self.entries) (map pair_of l.fn.other.entries);
  room : count l.self + count l.other ≤ l.self.capacity;
  counted : count l.self + count l.other ≡ count l.fn.self + count l.fn.other;
  keeps : Keeps l.fn.self l.self;
  steps : IsStep l.fn.self l.self;
  capacity : l.self.capacity ≡ capacity_for g.P.Inx.BasePtrInx.most l.fn.self.capacity (count l.fn.self + count l.fn.other);
  generation : l.self.generation ≡ l.fn.self.generation;
  removes : (n : ℕ) × RemovesMany g.Q.Gen.BasePtrGen.greatest l.fn.other l.other n;
}

abbrev pub decreases-loop-k : goal.decreases-loop-k
decreases-loop-k g l = count l.other
