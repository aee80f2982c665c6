use Rattle.ord_tree.proofs.Slack.{rank-most}
use Rattle.ord_tree.proofs.laws.rank_law.Goals as goal

pub returns : goal.returns
returns c = rank-most
