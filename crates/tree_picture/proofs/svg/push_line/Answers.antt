use Rattle.tree_picture.specs.Svg.{line}
use Rattle.tree_picture.proofs.svg.push_line.Goals as goal

pub returns : goal.returns
unfolding line
returns g c = c.write.ensures.bytes
