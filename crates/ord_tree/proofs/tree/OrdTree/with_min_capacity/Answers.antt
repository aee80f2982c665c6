use Rattle.std.proofs.Common.{refl, rules}
use Rattle.ord_tree.proofs.tree.OrdTree.with_min_capacity.Goals as goal

pub returns : goal.returns
returns g c = record { ok = rw c.in_ok-with_min_capacity.ensures.ok refl; beyond = search rules; none = search rules }
