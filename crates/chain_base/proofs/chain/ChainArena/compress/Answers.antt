use Rattle.std.proofs.Common.{rules}
use Rattle.chain_base.proofs.Canonical.{compression-relocates}
use Rattle.chain_base.proofs.chain.ChainArena.compress.Goals as goal

pub returns : goal.returns
returns g c = record {
  after = compression-relocates g.P.BasePtr.numbers _ _ g.P.Inx.BasePtrInx.most g.P.Gen.BasePtrGen.greatest (λ f p x q y h called. search rules) _ _ _ c.compress_with.ensures.sound c.compress_with.ensures.after;
  overflow = c.compress_with.ensures.overflow;
  sound = c.compress_with.ensures.sound;
}
