use Rattle.std.proofs.Common.{◌≡◌, length}
use Rattle.timeline.specs.Layout.{gaps_among}
use Rattle.timeline.proofs.gaps.GapsIterator.next.Given as goal

-- the pieces passed had none
abbrev pub invariant-loop-piece : goal.invariant-loop-piece
invariant-loop-piece g l = gaps_among l.initial.self-inside.walk ≡ gaps_among l.self-inside.walk

abbrev pub decreases-loop-piece : goal.decreases-loop-piece
decreases-loop-piece g l = length l.self-inside.walk
