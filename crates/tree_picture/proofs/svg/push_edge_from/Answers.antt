use Rattle.std.proofs.Common.{arith}
use Rattle.std.proofs.lemmas.{Grind.common_steps, Option.gets}
use Rattle.tree_picture.proofs.svg.push_edge_from.Goals as goal

pub returns-in_default : goal.returns-in_default
returns-in_default g c = grind (arith, common_steps, gets)

pub returns : goal.returns
returns g c = grind (arith, common_steps, gets)
