use Rattle.chain_base.proofs.Kept.{compression-retold}
use Rattle.chain_base.proofs.chain.ChainArena.compress_with.Goals as goal

pub returns : goal.returns
returns g c = record {
  after = compression-retold g.P.BasePtr.numbers _ _ _ (λ m. m.f) (λ m p x q y n called. called) _ _ _ c.compress_by.ensures.after;
  overflow = c.compress_by.ensures.overflow;
  sound = c.compress_by.ensures.sound;
}
