use Rattle.std.proofs.Common.{◌≡◌, length}
use Rattle.order_book.specs.AuctionSteps.{left_of, left_within, quantity_of}
use Rattle.order_book.proofs.auction.pass_unmet.Given as goal

-- what is left of the levels comes to the same, and holds the quantity
abbrev pub invariant-loop-worst : goal.invariant-loop-worst
invariant-loop-worst g l = record {
  left : left_within l.fn.side l.fn.limit (left_of l.worst l.better) ≡ left_within l.fn.side l.fn.limit (left_of l.fn.worst l.fn.better);
  quantity : l.quantity ≡ quantity_of (left_of l.worst l.better);
}

abbrev pub decreases-loop-worst : goal.decreases-loop-worst
decreases-loop-worst g l = length (left_of l.worst l.better)
