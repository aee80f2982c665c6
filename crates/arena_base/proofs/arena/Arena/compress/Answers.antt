use Rattle.arena_base.proofs.{Words.rules, Compressing.compressed-given_back}
use Rattle.arena_base.proofs.arena.Arena.compress.Goals as goal

pub returns : goal.returns
returns g c =
    let restarts = c.compress_with.ensures in
    let after = compressed-given_back g.P.BasePtr.numbers _ _ (λ f p item q new f' called. search rules) _ _ _ restarts.after in
    record { after = after; overflow = restarts.overflow; fresh = restarts.fresh }
