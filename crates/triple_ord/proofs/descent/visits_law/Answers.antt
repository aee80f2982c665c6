use Rattle.triple_ord.proofs.Descending.{visits-bounded}
use Rattle.triple_ord.proofs.descent.visits_law.Goals as goal

pub returns : goal.returns
returns c = visits-bounded c.height_law.ensures c.rank_square_law.ensures c.tight_rank_law.ensures c.rebuilt_height_law.ensures
