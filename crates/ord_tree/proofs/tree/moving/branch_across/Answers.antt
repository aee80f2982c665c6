use Rattle.std.proofs.{Common.◌∙◌, Common.sym, Common.ap, Common.is_some, Common.option_map, lemmas.Option.same_Some}
use Rattle.ord_tree.specs.{TreeLinks.as_numbers, Node.slots_of}
use Rattle.ord_tree.proofs.{LeafBranches.next_bud, LeafBranches.IsLeafBranch-next, LeafBranches.is_some-mapped, LeafBranches.some_in, Reading.child-read}
use Rattle.ord_tree.proofs.tree.moving.branch_across.Goals as goal

pub unwrap-parent-requires : goal.unwrap-parent-requires
unwrap-parent-requires g c =
    let number = g.P.Inx.BasePtrInx.number in
    let child_is = sym (child-read number c.args.side c.links-links.result c.child.result c.child.ensures) in
    let child = some_in c.child.result c.if-is_none.ensures in
    let aside = c.requires.aside.2 in
    let bud = next_bud (slots_of c.args.chain.now) c.requires.aside.0 aside.shape c.requires.aside.1 aside.held aside.listed aside.once (number c.args.y) aside.within
    (as_numbers number c.links-links.result) c.links-links.ensures c.args.side (number child.0) (child_is ∙ ap (option_map number) child.1) in
    sym (is_some-mapped number c.neighbour.result) ∙ ap is_some (c.neighbour.ensures ∙ aside.facing ∙ bud.is)

pub returns : goal.returns
returns g c = λ root order aside.
    let number = g.P.Inx.BasePtrInx.number in
    let child_is = sym (child-read number c.args.side c.links-links.result c.child.result c.child.ensures) in
    let child = some_in c.child.result c.if-is_none.ensures in
    let bud = next_bud (slots_of c.args.chain.now) root aside.shape order aside.held aside.listed aside.once (number c.args.y) aside.within
    (as_numbers number c.links-links.result) c.links-links.ensures c.args.side (number child.0) (child_is ∙ ap (option_map number) child.1) in
    let parent = same_Some _ _ (ap (option_map number) (sym c.unwrap-parent.ensures) ∙ c.neighbour.ensures ∙ aside.facing ∙ bud.is) in
    IsLeafBranch-next number bud (record { parent = c.unwrap-parent.result; side = c.other.result }) parent c.other.ensures
