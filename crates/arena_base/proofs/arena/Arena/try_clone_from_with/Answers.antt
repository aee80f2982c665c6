use Rattle.arena_base.proofs.{Words.inl, Words.inr, Words.on_ok_weaker, Clones.clone-restated, Clones.IsArenaClone-weaker, Clones.refusal-restated}
use Rattle.arena_base.proofs.arena.Arena.try_clone_from_with.Goals as goal

pub returns : goal.returns
returns g c =
    let restated = clone-restated g.P.BasePtr.numbers _ _ (λ m. m.f) (λ m p u x n called. called) _ _ _ _ _ in
    let clones = c.clone_by.ensures.clones in
    record {
      ok = on_ok_weaker _ (IsArenaClone-weaker _ _ restated) clones.ok;
      beyond = clones.beyond;
      beyond_kept = λ is. (clones.beyond_kept is).0;
      memory = λ is.
          elim (clones.memory is) [
            | inl kept ↦ inl (kept.0, kept.1.0)
            | inr refused ↦ inr (refusal-restated g.P.BasePtr.numbers _ _ (λ m. m.f) (λ m p u r n called. called) _ _ _ _ _ refused)
          ];
    }
