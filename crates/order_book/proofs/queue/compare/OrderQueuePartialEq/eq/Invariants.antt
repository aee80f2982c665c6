use Rattle.std.proofs.Common.{◌≡◌, length}
use Rattle.std.specs.Cmp.Lexicographic.{pointwise}
use Rattle.order_book.specs.Queue.{is_same_order}
use Rattle.order_book.proofs.queue.compare.OrderQueuePartialEq.eq.Given as goal

-- as many orders are left on both sides, and these are the same exactly if all are
abbrev pub invariant-loop-order : goal.invariant-loop-order
invariant-loop-order g l = record {
  long : length l.left ≡ length l.right;
  same : pointwise (is_same_order g.T.PartialEq.eq) l.left l.right ≡ pointwise (is_same_order g.T.PartialEq.eq) l.initial.left l.initial.right;
}

abbrev pub decreases-loop-order : goal.decreases-loop-order
decreases-loop-order g l = length l.left
