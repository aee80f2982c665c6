use Rattle.tree_picture.specs.Svg.{moved_to}
use Rattle.tree_picture.proofs.svg.push_moved_to.Goals as goal

pub returns : goal.returns
unfolding moved_to
returns g c = c.write.ensures.bytes
