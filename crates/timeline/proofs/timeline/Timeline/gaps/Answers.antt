use Rattle.timeline.proofs.Walking.{pieces-are, gaps-are}
use Rattle.timeline.proofs.timeline.Timeline.gaps.Goals as goal

pub returns : goal.returns
returns g c =
    rw c.walk.ensures.pieces (gaps-are c.args.self.now.changes c.args.from c.args.until _
    (pieces-are c.args.self.now.changes c.args.from c.args.until c.walk.ensures.lawful))
