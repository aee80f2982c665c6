use Rattle.ord_tree.proofs.Rebuilding.{IsTop-leading}
use Rattle.ord_tree.proofs.rebuild.top_rank.Goals as goal

pub returns : goal.returns
returns c = rw c.saturating_sub.ensures (IsTop-leading c.args.len c.ranges.len.fits)
