use Rattle.std.proofs.Common.{◌≡◌, Some, IfSome, IsSome}
use Rattle.std.specs.Option.{option_map}
use Rattle.listing.specs.Chain.{from_index}
use Rattle.sorted_arena.specs.{Sorted.get, Stretch.has_index, Stretch.are_in_order}
use Rattle.sorted_arena.proofs.Retaining.{left-from}
use Rattle.sorted_arena.proofs.arena.SortedArena.comes_to.Given as goal

-- the last entry is met from the first one on if it is met from the next one on
abbrev pub invariant-loop-next : goal.invariant-loop-next
invariant-loop-next g l = record {
  named : IfSome l.next (λ p. IsSome (get l.fn.self (g.P.BasePtr.numbers p)));
  same : has_index (g.P.BasePtr.numbers l.fn.last).0 (from_index l.fn.self.entries (g.P.BasePtr.numbers l.fn.first).0)
      ≡ are_in_order (option_map (λ q. q.0) (option_map g.P.BasePtr.numbers l.next)) (Some (g.P.BasePtr.numbers l.fn.last).0) l.fn.self.entries;
}

abbrev pub decreases-loop-next : goal.decreases-loop-next
decreases-loop-next g l = left-from l.fn.self.entries (option_map g.P.BasePtr.numbers l.next)
