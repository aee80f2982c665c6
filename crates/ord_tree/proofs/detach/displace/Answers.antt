use Rattle.std.proofs.Common.{sym, ◌∙◌, ap, is_some, option_map, ◌+◌, arith, rules}
use Rattle.ord_tree.specs.{Potential.potential, TreeLinks.as_numbers}
use Rattle.ord_tree.proofs.Removing.{z_occupied, v_is, loose_v, can_stand, displaced, displaced_paid, loose_z, paid_more, mapped}
use Rattle.ord_tree.proofs.{Views.MovesBacks-then, Cutting.v_occupied, Steps.takes_out, LeafBranches.is_some-mapped, LeafBranches.none_of}
use Rattle.ord_tree.proofs.detach.displace.Goals as goal

pub links-requires : goal.links-requires
links-requires g c = z_occupied c.requires.1

pub unwrap-v-requires : goal.unwrap-v-requires
unwrap-v-requires g c =
    let number = g.N.Nodes.number in
    let some = mapped number c.links.result.lesser c.if-is_none.ensures in
    sym (is_some-mapped number c.args.before) ∙ ap is_some (v_is c.requires.1 (as_numbers number c.links.result) c.links.ensures some.0 some.1)

pub cut-branch-requires : goal.cut-branch-requires
cut-branch-requires g c =
    let number = g.N.Nodes.number in
    let some = mapped number c.links.result.lesser c.if-is_none.ensures in
    (c.requires.0, loose_v c.requires.1 (as_numbers number c.links.result) c.links.ensures some.0 some.1 (number c.unwrap-v.result) (ap (option_map number) c.unwrap-v.ensures))

pub substitute-requires : goal.substitute-requires
substitute-requires g c =
    let number = g.N.Nodes.number in
    let v = number c.unwrap-v.result in
    let links = as_numbers number c.links.result in
    let some = mapped number c.links.result.lesser c.if-is_none.ensures in
    let is_v = ap (option_map number) c.unwrap-v.ensures in
    let loose = loose_v c.requires.1 links c.links.ensures some.0 some.1 v is_v in
    can_stand c.requires.1 links c.links.ensures some.0 some.1 v is_v (g.N.Nodes.at c.cut-branch.new.nodes) (option_map number c.cut-branch.new.root)
    (c.cut-branch.ensures.occupied v ∙ v_occupied loose) number c.cut-branch.result (c.cut-branch.ensures.taken.after c.requires.0 loose)

pub returns : goal.returns
returns g c =
    let number = g.N.Nodes.number in
    let v = number c.unwrap-v.result in
    let links = as_numbers number c.links.result in
    let some = mapped number c.links.result.lesser c.if-is_none.ensures in
    let is_v = ap (option_map number) c.unwrap-v.ensures in
    takes_out (cc) (λ order can.
    let loose = loose_v can links c.links.ensures some.0 some.1 v is_v in
    let cut = c.cut-branch.ensures.taken.after order loose in
    let spare = c.cut-branch.ensures.occupied v ∙ v_occupied loose in
    let mid = g.N.Nodes.at c.cut-branch.new.nodes in
    let mid_root = option_map number c.cut-branch.new.root in
    let stands = can_stand can links c.links.ensures some.0 some.1 v is_v mid mid_root spare number c.cut-branch.result cut in
    let new = g.N.Nodes.at c.substitute.new.nodes in
    let root = option_map number c.substitute.new.root in (
      displaced can links c.links.ensures some.0 some.1 v is_v mid mid_root spare new root c.substitute.ensures.held number c.cut-branch.result c.branch_with.result c.branch_with.ensures cut,
      displaced_paid can links c.links.ensures some.0 some.1 v is_v mid mid_root spare new root c.substitute.ensures.held
          can.built.shape (potential can.built.shape + 1) number (potential can.built.shape + 2) (omega arith) c.cut-branch.result c.branch_with.result c.branch_with.ensures
          (c.cut-branch.ensures.taken.account order loose),
      MovesBacks-then (g.N.Nodes.at c.args.nodes.now) mid new 1 3 (c.cut-branch.ensures.taken.backs order loose) (c.substitute.ensures.backs stands.0 stands.1),
    ))

pub returns-then-is_none : goal.returns-then-is_none
returns-then-is_none g c =
    let number = g.N.Nodes.number in
    let none = ap (option_map number) (none_of c.links.result.lesser (search rules)) in
    takes_out (cc) (λ order can.
    let loose = loose_z can (as_numbers number c.links.result) c.links.ensures none in
    let moved = c.cut.ensures.taken.backs order loose in (
      c.cut.ensures.taken.after order loose,
      paid_more number _ _ _ _ (potential can.built.shape + 1) _ (omega arith) _ (c.cut.ensures.taken.account order loose),
      (moved.0, omega (arith, moved.1), moved.2),
    ))
