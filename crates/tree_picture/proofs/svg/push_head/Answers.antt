use Rattle.tree_picture.specs.Svg.{head}
use Rattle.tree_picture.proofs.svg.push_head.Goals as goal

pub returns : goal.returns
unfolding head
returns g c = c.write.ensures.bytes
