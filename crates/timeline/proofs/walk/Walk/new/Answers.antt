use Rattle.timeline.proofs.Walking.{pieces-begun}
use Rattle.timeline.proofs.walk.Walk.new.Goals as goal

pub returns : goal.returns
returns g c =
    pieces-begun c.args.changes.now.entries c.around-last.ensures.distinct c.args.from c.args.until c.around-last.result c.around-last.ensures _ c.value_of.ensures
