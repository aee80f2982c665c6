use Rattle.std.proofs.Common.{◌∙◌, ap}
use Rattle.ord_tree.specs.Node.{bare}
use Rattle.ord_tree.proofs.Compressing.{bare-relocated}
use Rattle.ord_tree.proofs.tree.OrdTree.compress.Goals as goal

pub returns : goal.returns
returns g c = record {
  after = rw (← c.self.view_is) (c.rebuild_over.ensures.kept ∙ ap bare c.compress-overflow.ensures.after ∙ bare-relocated c.self.inside.chain _);
  shape = c.rebuild_over.ensures.rebuilt;
  overflow = rw (← c.self.view_is) c.compress-overflow.ensures.overflow;
}
