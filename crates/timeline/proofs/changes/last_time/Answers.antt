use Rattle.timeline.proofs.LastChange.{last-change}
use Rattle.timeline.proofs.changes.last_time.Goals as goal

pub returns : goal.returns
returns g c = last-change c.args.changes.now.entries c.last.ensures.sound.distinct c.requires c.last.result c.last.ensures.value c.time_of.result c.time_of.ensures
