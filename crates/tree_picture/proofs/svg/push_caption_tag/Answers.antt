use Rattle.tree_picture.specs.Svg.{caption_tag}
use Rattle.tree_picture.proofs.svg.push_caption_tag.Goals as goal

pub returns : goal.returns
unfolding caption_tag
returns g c = c.write.ensures.bytes
