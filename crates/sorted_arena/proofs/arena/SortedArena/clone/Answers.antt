use Rattle.sorted_arena.proofs.Changing.{held-cloned}
use Rattle.sorted_arena.proofs.arena.SortedArena.clone.Goals as goal

pub invariant_of-result : goal.invariant_of-result
invariant_of-result g c = rw c.in_ok-clone.ensures.ok (held-cloned g.K.Ord.cmp c.self.inside.is_compact g.P.Gen.BasePtrGen.greatest c.self.inside.pairs c.self.invariant)
