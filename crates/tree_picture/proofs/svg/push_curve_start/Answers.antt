use Rattle.tree_picture.specs.Svg.{curve_start}
use Rattle.tree_picture.proofs.svg.push_curve_start.Goals as goal

pub returns : goal.returns
unfolding curve_start
returns g c = c.write.ensures.bytes
