use Rattle.std.proofs.Common.{refl}
use Rattle.ord_tree.specs.TreeLinks.{as_numbers}
use Rattle.ord_tree.proofs.Entries.{Writes-entry}
use Rattle.ord_tree.proofs.store.ChainArenaSimpleOrdArenaNodeNodes.set_links.Goals as goal

pub returns : goal.returns
returns g c =
    rw (← c.get.ensures.value) (Writes-entry c.args.self.now _ _ _ c.pair_mut-pair.ensures.value refl
    (λ m. as_numbers g.P.Inx.BasePtrInx.number c.args.links)
    (rw (c.kept-node.ensures, c.kept-node-2.ensures, c.kept-node-3.ensures) refl))
