use Rattle.std.proofs.{Common.◌∙◌, Common.arith, Common.sym, Common.option_map, lemmas.Grind.common_steps}
use Rattle.chain_base.specs.Invalidation.{valid_value}
use Rattle.ord_tree.proofs.Renewed.{item_of-bare, call_laid_out, call_renewed}
use Rattle.ord_tree.proofs.tree.OrdTree.invalidate.Goals as goal

pub invariant_of-self : goal.invariant_of-self
invariant_of-self g c =
    call_laid_out g.P.Gen.BasePtrGen.greatest c.self.inside.chain (option_map g.P.Inx.BasePtrInx.number c.self.inside.root) _ c.self.invariant (valid_value c.invalidate.result) c.invalidate.new.self
    c.invalidate.ensures.renewed c.invalidate.ensures.invalid

pub returns : goal.returns
returns g c =
    let told = c.invalidate.ensures in
    record {
      valid = rw (← c.self.view_is) (told.valid ∙ sym (item_of-bare c.self.inside.chain.entries _));
      index = told.index;
      generation = rw (← c.self.view_is) told.generation;
      overflow = rw (← c.self.view_is) told.overflow;
      renewed = rw (← c.self.view_is) (call_renewed g.P.Gen.BasePtrGen.greatest c.self.inside.chain (option_map g.P.Inx.BasePtrInx.number c.self.inside.root) _ c.self.invariant
          (valid_value c.invalidate.result) c.invalidate.new.self told.renewed);
      invalid = grind (arith, common_steps);
    }
