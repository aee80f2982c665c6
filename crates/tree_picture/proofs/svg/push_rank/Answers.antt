use Rattle.tree_picture.specs.Svg.{rank_element}
use Rattle.tree_picture.proofs.svg.push_rank.Goals as goal

pub returns : goal.returns
unfolding rank_element
returns g c = c.write.ensures.bytes
