use Rattle.std.proofs.Common.{ap}
use Rattle.chain_base.specs.Chain.{Chain}
use Rattle.ord_tree.proofs.Trees.{IsLaidOut-entries}
use Rattle.ord_tree.proofs.tree.OrdTree.set_generation.Goals as goal

pub invariant_of-self : goal.invariant_of-self
invariant_of-self g c = IsLaidOut-entries c.self.inside.chain c.set_generation.new.self _ (ap (λ (c : Chain _). c.entries) c.set_generation.ensures) c.self.invariant
