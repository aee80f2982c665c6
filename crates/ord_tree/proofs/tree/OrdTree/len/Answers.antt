use Rattle.std.proofs.{Common.arith, lemmas.Grind.common_steps}
use Rattle.ord_tree.proofs.Trees.{IsSoundTree-laid_out, IsSound-bare}
use Rattle.ord_tree.proofs.tree.OrdTree.len.Goals as goal

pub returns : goal.returns
returns g c = record {
  value = grind (arith, common_steps);
  list = rw (← c.self.view_is) (IsSound-bare g.P.Inx.BasePtrInx.most g.P.Gen.BasePtrGen.greatest c.self.inside.chain c.len.ensures.sound);
  sound = rw (← c.self.view_is) (IsSoundTree-laid_out c.self.inside.chain _ c.self.invariant);
}
