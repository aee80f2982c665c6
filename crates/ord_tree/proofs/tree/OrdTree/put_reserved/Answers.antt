use Rattle.std.proofs.{Common.◌∙◌, Common.ap, Common.option_map}
use Rattle.ord_tree.proofs.{Grown.CanPutAt-bare, Grown.CanPlace-put, Grown.call_allowed, Grown.call_grown, Grown.call_listed, Named.inserted-named}
use Rattle.ord_tree.proofs.tree.OrdTree.put_reserved.Goals as goal

pub branch_at-branch-requires : goal.branch_at-branch-requires
branch_at-branch-requires g c = CanPutAt-bare g.P.Inx.BasePtrInx.number c.args.at c.self.inside.chain (rw (← c.self.view_is) at c.requires.place)

pub insert_reserved-p-requires-clause-place : goal.insert_reserved-p-requires-clause-place
insert_reserved-p-requires-clause-place g c =
    let number = g.P.Inx.BasePtrInx.number in
    let can = CanPutAt-bare number c.args.at c.self.inside.chain (rw (← c.self.view_is) at c.requires.place) in
    rw c.kind_of.ensures (CanPlace-put _ _ number c.args.at c.self.inside.chain can)

pub new-requires : goal.new-requires
new-requires g c =
    rw c.inx.ensures (inserted-named g.P.Inx.BasePtrInx.most g.P.Gen.BasePtrGen.greatest c.insert_reserved-p.new.self c.len.ensures.sound _ _ _ _ _ c.insert_reserved-p.ensures.inserted)

pub grow-requires : goal.grow-requires
grow-requires g c =
    let number = g.P.Inx.BasePtrInx.number in
    let can = CanPutAt-bare number c.args.at c.self.inside.chain (rw (← c.self.view_is) at c.requires.place) in
    let root = option_map number c.self.inside.root in
    call_allowed number c.self.inside.chain root c.args.at _ c.self.invariant can c.branch_at-branch.ensures c.parent_in.ensures c.leaf-node.ensures c.kind_of.ensures
    c.insert_reserved-p.ensures.inserted (ap number c.new.ensures ∙ c.inx.ensures) g.P.Inx.BasePtrInx.most g.P.Gen.BasePtrGen.greatest c.len.ensures.sound g.met.P.Inx.BasePtrInx.fits

pub invariant_of-self : goal.invariant_of-self
invariant_of-self g c =
    let number = g.P.Inx.BasePtrInx.number in
    let can = CanPutAt-bare number c.args.at c.self.inside.chain (rw (← c.self.view_is) at c.requires.place) in
    let root = option_map number c.self.inside.root in
    (call_grown number c.self.inside.chain root c.args.at _ c.self.invariant can c.branch_at-branch.ensures c.parent_in.ensures c.leaf-node.ensures c.kind_of.ensures
    c.insert_reserved-p.ensures.inserted (ap number c.new.ensures ∙ c.inx.ensures) g.P.Inx.BasePtrInx.most g.P.Gen.BasePtrGen.greatest c.len.ensures.sound g.met.P.Inx.BasePtrInx.fits
    c.grow.new.chain c.grow.new.root c.grow.ensures.kept c.grow.ensures.grown c.grow.ensures.account).0

pub returns : goal.returns
returns g c =
    let number = g.P.Inx.BasePtrInx.number in
    let can = CanPutAt-bare number c.args.at c.self.inside.chain (rw (← c.self.view_is) at c.requires.place) in
    let root = option_map number c.self.inside.root in
    let x_is = ap number c.new.ensures ∙ c.inx.ensures in
    record {
      inserted = rw (← c.self.view_is) (call_listed number c.self.inside.chain root c.args.at _ c.self.invariant can c.branch_at-branch.ensures c.parent_in.ensures c.leaf-node.ensures c.kind_of.ensures
          c.insert_reserved-p.ensures.inserted x_is g.P.Inx.BasePtrInx.most g.P.Gen.BasePtrGen.greatest c.len.ensures.sound g.met.P.Inx.BasePtrInx.fits
          c.grow.new.chain c.grow.new.root c.grow.ensures.kept c.grow.ensures.grown c.grow.ensures.account);
      grown = rw (← c.self.view_is) (call_grown number c.self.inside.chain root c.args.at _ c.self.invariant can c.branch_at-branch.ensures c.parent_in.ensures c.leaf-node.ensures c.kind_of.ensures
          c.insert_reserved-p.ensures.inserted x_is g.P.Inx.BasePtrInx.most g.P.Gen.BasePtrGen.greatest c.len.ensures.sound g.met.P.Inx.BasePtrInx.fits
          c.grow.new.chain c.grow.new.root c.grow.ensures.kept c.grow.ensures.grown c.grow.ensures.account).1;
    }
