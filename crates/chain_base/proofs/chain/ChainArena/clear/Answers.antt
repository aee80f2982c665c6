use Rattle.chain_base.proofs.Steps.{Lies-cleared}
use Rattle.chain_base.proofs.chain.ChainArena.clear.Goals as goal

pub returns : goal.returns
returns g c = record {
  after = rw (c.clear.ensures.after, ← c.self.view_is) (Lies-cleared g.P.Gen.BasePtrGen.greatest c.self.inside.arena).chain;
  overflow = rw (← c.self.view_is) c.clear.ensures.overflow;
}
