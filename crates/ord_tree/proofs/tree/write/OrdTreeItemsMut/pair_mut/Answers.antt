use Rattle.std.proofs.Common.{is_some, ◌∙◌, ap, refl, sym}
use Rattle.ord_tree.proofs.Trees.{entry_at-bare, IsLaidOut-below, tree_of-below}
use Rattle.ord_tree.proofs.tree.write.OrdTreeItemsMut.pair_mut.Goals as goal

pub node_item_mut-requires : goal.node_item_mut-requires
node_item_mut-requires g c = let occupied = rw (← c.self.view_is) at c.requires in ap is_some (sym (entry_at-bare c.self.inside.chain.entries _)) ∙ occupied

pub invariant_of-self-lent : goal.invariant_of-self-lent
invariant_of-self-lent g c = λ w. IsLaidOut-below c.self.inside.chain _ _ w c.self.invariant

pub returns : goal.returns
returns g c = (
  (refl, λ w. rw (← c.self.view_is) (tree_of-below c.self.inside.chain _ _ w c.self.invariant)),
  record { writes_back = tt; value = rw (← c.self.view_is) (entry_at-bare c.self.inside.chain.entries _ ∙ c.node_item_mut.ensures.value) },
)
