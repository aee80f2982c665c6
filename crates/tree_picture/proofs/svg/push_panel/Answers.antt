use Rattle.std.proofs.Common.{arith}
use Rattle.std.proofs.lemmas.Grind.{common_steps}
use Rattle.tree_picture.specs.Svg.{panel_element}
use Rattle.tree_picture.proofs.svg.push_panel.Goals as goal

pub returns : goal.returns
unfolding panel_element
returns g c = grind (arith, common_steps)
