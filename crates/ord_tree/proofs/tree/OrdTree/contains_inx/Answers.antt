use Rattle.std.proofs.Common.{◌∙◌, sym}
use Rattle.ord_tree.proofs.Trees.{is_some-bare}
use Rattle.ord_tree.proofs.tree.OrdTree.contains_inx.Goals as goal

pub returns : goal.returns
returns g c = rw (← c.self.view_is) (c.contains_inx.ensures ∙ sym (is_some-bare c.self.inside.chain.entries _))
