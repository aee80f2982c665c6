use Rattle.std.proofs.Common.{arith}
use Rattle.std.proofs.lemmas.Grind.{common_steps}
use Rattle.tree_picture.specs.Svg.{legend}
use Rattle.tree_picture.proofs.svg.push_legend.Goals as goal

pub returns : goal.returns
unfolding legend
returns g c = grind (arith, common_steps)
