use Rattle.ord_tree.proofs.Appending.{appended, appended-count}
use Rattle.ord_tree.proofs.tree.append.append_one.Goals as goal

pub returns-clause-appended : goal.returns-clause-appended
returns-clause-appended g c =
    rw c.leaf.ensures at (appended g.P.BasePtr.numbers c.args.chain.now _ c.leaf.result c.requires c.push_back_within_capacity.result c.push_back_within_capacity.ensures.ok c.push_back_within_capacity.ensures.refused.full)

pub returns-clause-count : goal.returns-clause-count
returns-clause-count g c =
    appended-count g.P.BasePtr.numbers c.args.chain.now _ c.leaf.result c.requires c.push_back_within_capacity.result c.push_back_within_capacity.ensures.ok c.push_back_within_capacity.ensures.refused.full
