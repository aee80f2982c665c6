use Rattle.std.proofs.Common.{sym, ◌∙◌}
use Rattle.ord_tree.specs.TreeLinks.{as_numbers}
use Rattle.ord_tree.proofs.{Rotations.occupied-inner, Rotations.IsRotated-written, Reading.child_other-read}
use Rattle.ord_tree.proofs.rotate.rotate.Goals as goal

pub hang-requires : goal.hang-requires
hang-requires g c =
    let number = g.N.Nodes.number in
    let inner_is = child_other-read number c.args.side _ c.other-other.ensures c.links.result c.child-inner.result (c.child-inner.ensures _ c.links.ensures) in
    λ i e. c.replace_child.ensures.occupied i ∙ occupied-inner _ _ c.args.side _ _ c.requires (as_numbers number c.links.result) c.links.ensures i (sym inner_is ∙ e)

pub returns : goal.returns
returns g c = record {
  rotated = λ site.
      let inner_is = child_other-read g.N.Nodes.number c.args.side _ c.other-other.ensures c.links.result c.child-inner.result (c.child-inner.ensures _ c.links.ensures) in
      IsRotated-written site c.links.ensures c.links-high.ensures c.replace_child.ensures
      (rw inner_is at c.hang.ensures) (rw inner_is at c.relink.ensures) (rw c.other-other.ensures at c.relink-2.ensures);
  kept = cc;
}
