use Rattle.sorted_arena.proofs.{Cutting.sorted-items, Numbering.compact-canonical}
use Rattle.sorted_arena.proofs.arena.SortedArena.compact.Goals as goal

pub invariant_of-self : goal.invariant_of-self
invariant_of-self g c = record {
  order = record {
    sorted = sorted-items g.K.Ord.cmp c.compress_canonical.new.self.list.entries c.self.inside.pairs.list.entries c.compress_canonical.ensures.items c.self.invariant.order.sorted;
    unlimited = rw c.compress_canonical.ensures.renumbers.after c.self.invariant.order.unlimited;
  };
  compact = λ _. compact-canonical c.self.inside.pairs.list c.compress_canonical.new.self.list _ c.compress_canonical.ensures.renumbers.after;
}
