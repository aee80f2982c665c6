use Rattle.std.proofs.Common.{arith, refl}
use Rattle.leaf_list.proofs.list.LeafList.clear.Goals as goal

pub invariant_of-self : goal.invariant_of-self
invariant_of-self g c = rw c.clear.ensures (record { sorted = tt; distinct = λ i. omega arith; positive = refl; filled = tt })

pub returns : goal.returns
returns g c = rw (c.clear.ensures, c.self.view_is) refl
