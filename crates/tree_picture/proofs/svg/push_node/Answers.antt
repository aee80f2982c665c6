use Rattle.std.proofs.Common.{arith}
use Rattle.std.proofs.lemmas.Grind.{common_steps}
use Rattle.tree_picture.specs.Svg.{node_element}
use Rattle.tree_picture.proofs.svg.push_node.Goals as goal

pub returns : goal.returns
unfolding node_element
returns g c = grind (arith, common_steps)
