use Rattle.std.proofs.Common.{ap}
use Rattle.chain_base.specs.Chain.{Chain}
use Rattle.ord_tree.proofs.Trees.{IsLaidOut-entries}
use Rattle.ord_tree.proofs.tree.OrdTree.inc_generation.Goals as goal

pub invariant_of-self : goal.invariant_of-self
invariant_of-self g c = IsLaidOut-entries c.self.inside.chain c.inc_generation.new.self _ (ap (λ (c : Chain _). c.entries) c.inc_generation.ensures.after) c.self.invariant
