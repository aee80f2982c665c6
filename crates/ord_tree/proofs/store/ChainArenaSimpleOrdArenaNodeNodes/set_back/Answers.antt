use Rattle.std.proofs.Common.{ℕ, Option, refl, ap, option_map}
use Rattle.ord_tree.specs.Node.{links_in}
use Rattle.ord_tree.proofs.Entries.{Writes-entry}
use Rattle.ord_tree.proofs.store.ChainArenaSimpleOrdArenaNodeNodes.set_back.Goals as goal

pub returns : goal.returns
returns g c =
    rw (← c.get.ensures.value) (Writes-entry c.args.self.now _ _ _ c.pair_mut-pair.ensures.value refl
    (λ m. record m { back = option_map g.P.Inx.BasePtrInx.number c.args.back })
    (ap (λ (b : Option ℕ). record (links_in c.pair_mut-pair.result.1.now) { back = b }) c.kept-node.ensures))
