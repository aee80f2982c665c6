use Rattle.std.proofs.{Common.◌∙◌, Common.ap, Common.option_map, Common.arith, Common.◌≡◌, lemmas.Grind.common_steps, lemmas.Result.on_ok_weaker}
use Rattle.chain_base.specs.Chain.{Chain}
use Rattle.ord_tree.specs.Layout.{tree_of}
use Rattle.ord_tree.proofs.Trees.{IsLaidOut-entries, tree_of-with_room}
use Rattle.ord_tree.proofs.tree.OrdTree.make_room.Goals as goal

pub invariant_of-self : goal.invariant_of-self
invariant_of-self g c = IsLaidOut-entries c.self.inside.chain c.make_room.new.self _ c.make_room.ensures.kept c.self.invariant

pub returns : goal.returns
returns g c =
    let r = c.make_room in
    let root = option_map g.P.Inx.BasePtrInx.number c.self.inside.root in
    record {
      ok = rw (← c.self.view_is) (on_ok_weaker r.result (λ (e : r.new.self ≡ _). ap (λ (c : Chain _). tree_of c root) e ∙ tree_of-with_room g.P.Inx.BasePtrInx.most c.self.inside.chain root) r.ensures.ok);
      room = grind (arith, common_steps);
      next = grind (arith, common_steps);
      entries = grind (arith, common_steps);
      shape = grind (arith, common_steps);
      refused = grind (arith, common_steps);
    }
