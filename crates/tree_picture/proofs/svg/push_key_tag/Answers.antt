use Rattle.tree_picture.specs.Svg.{key_tag}
use Rattle.tree_picture.proofs.svg.push_key_tag.Goals as goal

pub returns : goal.returns
unfolding key_tag
returns g c = c.write.ensures.bytes
