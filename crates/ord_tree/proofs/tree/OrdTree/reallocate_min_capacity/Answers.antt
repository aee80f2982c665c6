use Rattle.std.proofs.{Common.◌≡◌, Common.◌∙◌, Common.ap, Common.option_map, lemmas.Result.on_ok_weaker, lemmas.Result.on_err_weaker}
use Rattle.chain_base.specs.Chain.{Chain}
use Rattle.ord_tree.specs.Layout.{tree_of}
use Rattle.ord_tree.proofs.Trees.{either_result, IsLaidOut-entries, tree_of-with_capacity}
use Rattle.ord_tree.proofs.tree.OrdTree.reallocate_min_capacity.Goals as goal

pub invariant_of-self : goal.invariant_of-self
invariant_of-self g c =
    let r = c.reallocate_min_capacity in
    IsLaidOut-entries c.self.inside.chain r.new.self _
    (either_result r.result r.ensures.ok r.ensures.err (ap (λ (c : Chain _). c.entries)) (ap (λ (c : Chain _). c.entries))) c.self.invariant

pub returns : goal.returns
returns g c =
    let r = c.reallocate_min_capacity in
    let root = option_map g.P.Inx.BasePtrInx.number c.self.inside.root in
    rw (← c.self.view_is) (record {
      ok = on_ok_weaker r.result (λ (e : r.new.self ≡ _). ap (λ (c : Chain _). tree_of c root) e ∙ tree_of-with_capacity c.self.inside.chain root c.args.n) r.ensures.ok;
      beyond = r.ensures.beyond;
      memory = r.ensures.memory;
      err = on_err_weaker r.result (ap (λ (c : Chain _). tree_of c root)) r.ensures.err;
    })
