use Rattle.order_book.specs.AuctionSteps.{left_of}
use Rattle.order_book.proofs.Seeking.{IsSeeking}
use Rattle.order_book.proofs.auction.best_auction.Given as goal

-- how far the search is
abbrev pub invariant-loop-level : goal.invariant-loop-level
invariant-loop-level g l = IsSeeking l.fn.own l.fn.other l.fn.known l.best l.offered l.against (left_of l.worst l.better) l.level-iterator
