use Rattle.std.proofs.Common.{arith, refl}
use Rattle.leaf_list.proofs.list.LeafList.new.Goals as goal

pub invariant_of-result : goal.invariant_of-result
invariant_of-result g c =
    rw c.new.ensures (record { sorted = tt; distinct = λ i. omega arith; positive = refl; filled = tt })
