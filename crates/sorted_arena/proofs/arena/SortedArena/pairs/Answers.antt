use Rattle.std.proofs.Common.{sym}
use Rattle.listing.proofs.CallerLemmas.{held-sound}
use Rattle.sorted_arena.proofs.arena.SortedArena.pairs.Goals as goal

pub returns : goal.returns
returns g c = record {
  view = sym c.self.view_is;
  order = c.self.invariant.order;
  sound = rw (← c.self.view_is) (held-sound g.K.Ord.cmp g.P.Inx.BasePtrInx.most g.P.Gen.BasePtrGen.greatest c.self.inside.pairs c.len.ensures.sound c.self.invariant.order);
}
