use Rattle.chain_base.proofs.Transferring.{transfer-retold}
use Rattle.chain_base.proofs.chain.ChainArena.transfer_canonical_reallocating.Goals as goal

pub returns : goal.returns
returns g c = record {
  ok = transfer-retold g.Q.BasePtr.numbers g.P.BasePtr.numbers g.Q.Gen.BasePtrGen.greatest _ _ (λ m. m.f) (λ s q taken p x t called. called) _ _ _ _ _ _ c.transfer_by.result c.transfer_by.ensures.ok;
  beyond = c.transfer_by.ensures.beyond;
  memory = c.transfer_by.ensures.memory;
  err = c.transfer_by.ensures.err;
}
