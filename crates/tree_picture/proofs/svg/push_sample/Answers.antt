use Rattle.std.proofs.Common.{arith}
use Rattle.std.proofs.lemmas.Grind.{common_steps}
use Rattle.tree_picture.specs.Svg.{sample}
use Rattle.tree_picture.proofs.svg.push_sample.Goals as goal

pub returns : goal.returns
unfolding sample
returns g c = grind (arith, common_steps)
