use Rattle.std.proofs.Common.{◌∙◌, ap, map}
use Rattle.timeline.specs.Layout.{change_of}
use Rattle.timeline.proofs.Walking.{listed}
use Rattle.timeline.proofs.timeline.Timeline.changes.Goals as goal

pub returns : goal.returns
returns g c = rw (← c.self.view_is) (ap (map change_of) (c.items.ensures.items ∙ ap (map _) c.iter.ensures.entries) ∙ listed c.self.inside.changes.entries)
