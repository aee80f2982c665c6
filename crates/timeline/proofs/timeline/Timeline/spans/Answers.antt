use Rattle.timeline.proofs.Walking.{pieces-are, spans-are}
use Rattle.timeline.proofs.timeline.Timeline.spans.Goals as goal

pub returns : goal.returns
returns g c =
    rw c.walk.ensures.pieces (spans-are c.args.self.now.changes c.args.from c.args.until _
    (pieces-are c.args.self.now.changes c.args.from c.args.until c.walk.ensures.lawful))
