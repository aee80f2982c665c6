use Rattle.std.proofs.Common.{rules}
use Rattle.sorted_arena.proofs.{Cutting.written-found, Numbering.compact-written}
use Rattle.listing.proofs.ChainLemmas.{length-with_item_among}
use Rattle.sorted_arena.proofs.arena.SortedArena.value_mut.Goals as goal

pub invariant_of-self-lent : goal.invariant_of-self-lent
invariant_of-self-lent g c w = record {
  order = record {
    sorted = written-found g.K.Ord.cmp c.self.inside.pairs.list.entries (g.P.BasePtr.numbers c.args.p) c.in_ok-pair.pair.now w c.in_ok-pair.ensures.value.value c.self.invariant.order.sorted;
    unlimited = c.self.invariant.order.unlimited;
  };
  compact = λ is. compact-written c.self.inside.pairs.list _ _ (length-with_item_among c.self.inside.pairs.list.entries _ _) (c.self.invariant.compact is);
}

pub returns : goal.returns
returns g c = rw (← c.self.view_is) (rw (← c.in_ok-pair.ensures.value.value) (search rules))
