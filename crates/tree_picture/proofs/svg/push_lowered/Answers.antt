use Rattle.tree_picture.specs.Svg.{lowered}
use Rattle.tree_picture.proofs.svg.push_lowered.Goals as goal

pub returns : goal.returns
unfolding lowered
returns g c = c.write.ensures.bytes
