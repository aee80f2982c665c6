use Rattle.std.proofs.{Common.ap, Common.option_map, Common.rules, Common.arith, lemmas.Grind.common_steps}
use Rattle.chain_base.specs.Chain.{Chain}
use Rattle.ord_tree.specs.Layout.{tree_of}
use Rattle.ord_tree.proofs.Compressing.{IsTransfer-bare, refused_always}
use Rattle.ord_tree.proofs.tree.OrdTree.transfer_canonical_reallocating.Goals as goal

pub returns : goal.returns
returns g c = record {
  ok = record {
    lists = rw (← c.self.view_is, ← c.source.view_is)
        (IsTransfer-bare g.Q.BasePtr.numbers g.P.BasePtr.numbers g.Q.Gen.BasePtrGen.greatest _ _ (λ m. m.map.f) (λ s q taken p n t called. record { plain = called.plain; item = called.item; overflow = called.overflow; called = called.called }) _ _
        c.source.inside.chain c.transfer_by.new.source c.self.inside.chain c.transfer_by.new.self c.in_ok-transfer_by.ensures.ok _ c.rebuild_over.ensures.kept);
    shape = c.rebuild_over.ensures.rebuilt;
    left = search rules;
  };
  beyond = grind (arith, common_steps);
  memory = grind (arith, common_steps);
  err = search rules;
}

pub returns-in_err-transfer_by : goal.returns-in_err-transfer_by
returns-in_err-transfer_by g c =
    let err = c.in_err-transfer_by.ensures.err in
    record {
      ok = search rules;
      beyond = grind (arith, common_steps);
      memory = grind (arith, common_steps);
      err = rw (← c.self.view_is, ← c.source.view_is) (refused_always c.from_residual.result (
        ap (λ (d : Chain _). tree_of d (option_map g.P.Inx.BasePtrInx.number c.self.inside.root)) err.0,
        ap (λ (d : Chain _). tree_of d (option_map g.Q.Inx.BasePtrInx.number c.source.inside.root)) err.1,
      ));
    }
