use Rattle.sorted_arena.proofs.Changing.{held-resized}
use Rattle.sorted_arena.proofs.arena.SortedArena.shrink.Goals as goal

pub invariant_of-self : goal.invariant_of-self
invariant_of-self g c =
    held-resized g.K.Ord.cmp c.self.inside.is_compact c.self.inside.pairs c.reallocate_min_capacity.new.self _ c.reallocate_min_capacity.result c.reallocate_min_capacity.ensures.reallocates.ok c.reallocate_min_capacity.ensures.reallocates.err c.self.invariant
