use Rattle.tree_picture.specs.Svg.{curve_end}
use Rattle.tree_picture.proofs.svg.push_curve_end.Goals as goal

pub returns : goal.returns
unfolding curve_end
returns g c = c.write.ensures.bytes
