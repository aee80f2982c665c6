use Rattle.std.proofs.Common.{inl, inr}
use Rattle.chain_base.proofs.Cloning.{clone-restated, refusal-restated}
use Rattle.chain_base.proofs.chain.ChainArena.try_clone_from_with.Goals as goal

pub returns : goal.returns
returns g c =
    let clones = c.clone_by.ensures.clones in
    record {
      ok = clone-restated g.P.BasePtr.numbers _ _ (λ m. m.f) (λ m p u x n called. called) c.clone_by.result _ _ _ _ _ clones.ok;
      beyond = clones.beyond;
      beyond_kept = λ is. (clones.beyond_kept is).0;
      memory = λ is.
          elim (clones.memory is) [
            | inl kept ↦ inl (kept.0, kept.1.0)
            | inr refused ↦ inr (refusal-restated g.P.BasePtr.numbers _ _ (λ m. m.f) (λ m p u r n called. called) _ _ _ _ _ refused)
          ];
    }
