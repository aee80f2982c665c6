use Rattle.arena_base.proofs.Compressing.{compression-retold}
use Rattle.arena_base.proofs.arena.Arena.compress_with.Goals as goal

pub returns : goal.returns
returns g c =
    let restarts = c.compress_by.ensures in
    let after = compression-retold g.P.BasePtr.numbers _ _ _ (λ m. m.f) (λ m p x q y n called. called) _ _ _ restarts.after in
    record { after = after; overflow = restarts.overflow; fresh = restarts.fresh }
