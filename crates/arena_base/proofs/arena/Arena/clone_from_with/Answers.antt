use Rattle.arena_base.proofs.{Words.on_ok_weaker, Words.rules, Clones.clone-restated, Clones.IsArenaClone-weaker}
use Rattle.arena_base.proofs.arena.Arena.clone_from_with.Goals as goal

pub returns : goal.returns
returns g c =
    let restated = clone-restated g.P.BasePtr.numbers _ _ (λ m. m.f) (λ m p u x n called. called) _ _ _ _ _ in
    record { ok = on_ok_weaker _ (IsArenaClone-weaker _ _ restated) c.clone_by.ensures.clones.ok; beyond = c.clone_by.ensures.clones.beyond; memory = search rules; err = search rules }
