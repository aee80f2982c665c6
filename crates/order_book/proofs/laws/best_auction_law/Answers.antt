use Rattle.order_book.proofs.Uncrossing.{best-same}
use Rattle.order_book.proofs.laws.best_auction_law.Goals as goal

pub returns : goal.returns
returns g c = best-same
