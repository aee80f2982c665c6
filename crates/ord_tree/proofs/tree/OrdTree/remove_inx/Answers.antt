use Rattle.std.proofs.{Common.◌∙◌, Common.arith, Common.sym, lemmas.Grind.common_steps}
use Rattle.ord_tree.proofs.{LeafBranches.none_of, Shrunk.some_always, Trees.is_some-bare}
use Rattle.ord_tree.proofs.tree.OrdTree.remove_inx.Goals as goal

pub returns-then-not-contains_inx-clause-removal : goal.returns-then-not-contains_inx-clause-removal
returns-then-not-contains_inx-clause-removal g c =
    record {
      value = rw (← c.self.view_is) (sym (none_of _ (is_some-bare c.self.inside.chain.entries _ ∙ sym c.contains_inx.ensures ∙ c.if-not-contains_inx.true)));
      overflow = tt;
      removed = tt;
      invalid = grind (arith, common_steps);
    }

pub remove_entry-requires : goal.remove_entry-requires
remove_entry-requires g c = rw (← c.self.view_is) (is_some-bare c.self.inside.chain.entries _ ∙ sym c.contains_inx.ensures ∙ c.if-not-contains_inx.false)

pub returns-clause-shape : goal.returns-clause-shape
returns-clause-shape g c = some_always _ c.remove_entry.ensures.shape
