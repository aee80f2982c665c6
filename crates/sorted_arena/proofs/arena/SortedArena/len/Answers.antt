use Rattle.listing.proofs.CallerLemmas.{held-sound}
use Rattle.sorted_arena.proofs.arena.SortedArena.len.Goals as goal

pub returns-clause-sound : goal.returns-clause-sound
returns-clause-sound g c = rw (← c.self.view_is) (held-sound g.K.Ord.cmp g.P.Inx.BasePtrInx.most g.P.Gen.BasePtrGen.greatest c.self.inside.pairs c.len.ensures.sound c.self.invariant.order)
