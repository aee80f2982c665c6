use Rattle.std.proofs.Common.{arith}
use Rattle.std.proofs.lemmas.Grind.{common_steps}
use Rattle.tree_picture.specs.Svg.{caption_text}
use Rattle.tree_picture.proofs.svg.push_caption_text.Goals as goal

pub returns : goal.returns
unfolding caption_text
returns g c = grind (arith, common_steps)
