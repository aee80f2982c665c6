use Rattle.std.proofs.Common.{rules}
use Rattle.chain_base.proofs.Cloning.{clone-restated}
use Rattle.chain_base.proofs.chain.ChainArena.clone_from_with.Goals as goal

pub returns : goal.returns
returns g c = record {
  ok = clone-restated g.P.BasePtr.numbers _ _ (λ m. m.f) (λ m p u x n called. called) c.clone_by.result _ _ _ _ _ c.clone_by.ensures.clones.ok;
  beyond = c.clone_by.ensures.clones.beyond;
  memory = search rules;
  err = search rules;
}
