use Rattle.std.proofs.Common.{◌+◌, length}
use Rattle.sorted_arena.proofs.Changing.{held-reserved}
use Rattle.sorted_arena.proofs.arena.SortedArena.reserve.Goals as goal

pub invariant_of-self : goal.invariant_of-self
invariant_of-self g c =
    held-reserved g.K.Ord.cmp c.self.inside.is_compact g.P.Inx.BasePtrInx.most c.self.inside.pairs c.reserve.new.self (length c.self.inside.pairs.list.entries + c.args.additional)
    c.reserve.result c.reserve.ensures.reallocates.ok c.reserve.ensures.reallocates.err c.self.invariant
