use Rattle.std.proofs.Common.{ap}
use Rattle.chain_base.specs.Chain.{Chain}
use Rattle.ord_tree.proofs.Trees.{either_result, IsLaidOut-entries}
use Rattle.ord_tree.proofs.tree.OrdTree.set_max_capacity.Goals as goal

pub invariant_of-self : goal.invariant_of-self
invariant_of-self g c =
    let r = c.set_max_capacity in
    IsLaidOut-entries c.self.inside.chain r.new.self _
    (either_result r.result r.ensures.ok r.ensures.err (ap (λ (c : Chain _). c.entries)) (ap (λ (c : Chain _). c.entries))) c.self.invariant
