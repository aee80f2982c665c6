use Rattle.std.proofs.Common.{◌≡◌, ◌+◌}
use Rattle.order_book.specs.{Queue.total, AuctionSteps.quantity_of}
use Rattle.order_book.proofs.queue.OrderQueue.volume.Given as goal

-- what was summed up and what is still to come is all
abbrev pub invariant-loop-level : goal.invariant-loop-level
invariant-loop-level g l = l.volume + quantity_of l.level-iterator ≡ total l.fn.self.orders
