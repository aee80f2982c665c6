use Rattle.std.proofs.Common.{refl}
use Rattle.ord_tree.proofs.Entries.{Writes-entry}
use Rattle.ord_tree.proofs.store.ChainArenaSimpleOrdArenaNodeNodes.set_rank.Goals as goal

pub returns : goal.returns
returns g c =
    rw (← c.get.ensures.value) (Writes-entry c.args.self.now _ _ _ c.pair_mut-pair.ensures.value refl (λ m. record m { rank = c.args.rank }) refl)
