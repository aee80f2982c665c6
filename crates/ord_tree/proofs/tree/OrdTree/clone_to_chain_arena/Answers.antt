use Rattle.std.proofs.Common.{inl, inr, ap, rules}
use Rattle.ord_tree.specs.Tree.{Tree}
use Rattle.ord_tree.proofs.{Trees.greatest_index-bare, Cloning.list-told}
use Rattle.ord_tree.proofs.tree.OrdTree.clone_to_chain_arena.Goals as goal

pub returns : goal.returns
returns g c = record {
  ok = list-told g.P.BasePtr.numbers _ _ (λ m. m.map.f) (λ m p l x n called. called) _ _ c.self.inside.chain _ _ _ (ap (λ (t : Tree _). t.list) c.self.view_is) c.clone_by.result c.clone_by.ensures.clones.ok;
  beyond = rw (← c.self.view_is, greatest_index-bare c.self.inside.chain.entries) c.clone_by.ensures.clones.beyond;
  memory = λ is.
      elim (c.clone_by.ensures.clones.memory is) [
        | inl kept ↦ rw (← c.self.view_is, greatest_index-bare c.self.inside.chain.entries) kept.0
        | inr refused ↦ absurd refused.stops.called
      ];
  err = search rules;
}
