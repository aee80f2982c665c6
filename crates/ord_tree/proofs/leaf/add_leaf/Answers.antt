use Rattle.ord_tree.proofs.{NewLeaf.y_occupied, NewLeaf.IsRising-attached, NewLeaf.attached, Steps.repairs}
use Rattle.ord_tree.specs.Leaf.{beside}
use Rattle.ord_tree.proofs.leaf.add_leaf.Goals as goal

pub set_child-requires : goal.set_child-requires
set_child-requires g c = y_occupied c.requires.2

pub promote_all-requires : goal.promote_all-requires
promote_all-requires g c =
    let r = c.requires in
    (beside c.args.side (g.N.Nodes.number c.args.y) (g.N.Nodes.number c.args.x) r.0, r.1, IsRising-attached r.2 (g.N.Nodes.at c.set_child.new.self) c.set_child.ensures.here c.set_child.ensures.elsewhere)

pub returns : goal.returns
returns g c =
    let number = g.N.Nodes.number in
    let hung = g.N.Nodes.at c.set_child.new.self in
    repairs (cc) (λ o bud.
    let rising = IsRising-attached bud hung c.set_child.ensures.here c.set_child.ensures.elsewhere in
    let order = beside c.args.side (number c.args.y) (number c.args.x) o.0 in
    attached bud hung c.set_child.ensures.here c.set_child.ensures.elsewhere (c.promote_all.ensures.after (order, o.1) rising, c.promote_all.ensures.account (order, o.1) rising))
