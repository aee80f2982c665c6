use Rattle.std.proofs.Common.{◌≡◌}
use Rattle.order_book.specs.Queue.{taken}
use Rattle.order_book.proofs.queue.OrderQueue.take_volume.Given as goal

-- what is left to take comes to the whole quantity taken of the queue as it was
abbrev pub invariant-loop-left : goal.invariant-loop-left
invariant-loop-left g l = taken l.fn.quantity l.fn.self ≡ taken l.left l.self

abbrev pub decreases-loop-left : goal.decreases-loop-left
decreases-loop-left g l = l.left
