use Rattle.leaf_list.proofs.list.LeafList.clone.Goals as goal

pub invariant_of-result : goal.invariant_of-result
invariant_of-result g c = rw c.in_ok-clone.ensures c.self.invariant
