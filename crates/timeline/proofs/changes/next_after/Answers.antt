use Rattle.timeline.proofs.Around.{next-change}
use Rattle.timeline.proofs.changes.next_after.Goals as goal

pub returns : goal.returns
returns g c = next-change c.args.changes.now.entries c.args.time c.around.result c.around.ensures c.requires c.around.ensures.distinct c.time_of.result c.time_of.ensures
