use Rattle.std.proofs.Common.{◌≡◌, ◌≤◌, length}
use Rattle.timeline.specs.Layout.{IsAt}
use Rattle.timeline.proofs.Taking.{Taking}
use Rattle.timeline.proofs.paint.take_behind.Given as goal

-- so many are taken out
abbrev pub invariant-loop-value : goal.invariant-loop-value
invariant-loop-value g l =
    ((at : IsAt l.fn.changes.entries l.p) → Taking l.until at l.moved l.changes.entries) × (l.changes.capacity ≡ l.fn.changes.capacity) × (length l.changes.entries ≤ length l.fn.changes.entries)

abbrev pub decreases-loop-value : goal.decreases-loop-value
decreases-loop-value g l = length l.changes.entries
