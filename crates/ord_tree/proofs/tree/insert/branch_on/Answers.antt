use Rattle.std.proofs.{Common.◌∙◌, Common.refl, Common.sym, Common.ap, Common.option_map, lemmas.Option.same_Some}
use Rattle.ord_tree.specs.{TreeLinks.child_at, TreeLinks.as_numbers, Node.indexes, Node.slots_of}
use Rattle.ord_tree.proofs.LeafBranches.{within-occupied, IsOnce-distinct, next_bud, IsLeafBranch-next, none_of, some_in}
use Rattle.ord_tree.proofs.Reading.{child-read}
use Rattle.ord_tree.proofs.tree.insert.branch_on.Goals as goal

pub returns-then-is_none : goal.returns-then-is_none
returns-then-is_none g c = λ root s laid distinct.
    let number = g.P.Inx.BasePtrInx.number in
    let child_is = sym (child-read number c.args.side c.links-links.result c.child.result c.child.ensures) in
    let within = within-occupied c.args.chain.now.entries (number c.args.i) c.requires in
    record {
      within = within;
      bare = λ n e. ap (child_at c.args.side) (same_Some n _ (sym e ∙ c.links-links.ensures)) ∙ child_is ∙ ap (option_map number) (none_of c.child.result c.if-is_none.ensures);
      put = λ x. refl;
    }

pub returns-in_default : goal.returns-in_default
returns-in_default g c = λ root s laid distinct.
    let number = g.P.Inx.BasePtrInx.number in
    let entries = c.args.chain.now.entries in
    let child_is = sym (child-read number c.args.side c.links-links.result c.child.result c.child.ensures) in
    let within = within-occupied entries (number c.args.i) c.requires in
    let child = some_in c.child.result c.if-is_none.ensures in
    let bud = next_bud (slots_of c.args.chain.now) root s (indexes entries) laid.held laid.listed (IsOnce-distinct entries distinct) (number c.args.i) within
    (as_numbers number c.links-links.result) c.links-links.ensures c.args.side (number child.0) (child_is ∙ ap (option_map number) child.1) in
    let none = rw c.in_default.is at c.neighbour.ensures in
    let some = bud.is in
    absurd cc

pub returns : goal.returns
returns g c = λ root s laid distinct.
    let number = g.P.Inx.BasePtrInx.number in
    let entries = c.args.chain.now.entries in
    let child_is = sym (child-read number c.args.side c.links-links.result c.child.result c.child.ensures) in
    let within = within-occupied entries (number c.args.i) c.requires in
    let child = some_in c.child.result c.if-is_none.ensures in
    let bud = next_bud (slots_of c.args.chain.now) root s (indexes entries) laid.held laid.listed (IsOnce-distinct entries distinct) (number c.args.i) within
    (as_numbers number c.links-links.result) c.links-links.ensures c.args.side (number child.0) (child_is ∙ ap (option_map number) child.1) in
    let named = rw c.in-Some.is at c.neighbour.ensures in
    let some = bud.is in
    IsLeafBranch-next number bud (record { parent = c.in-Some.parent; side = c.other.result }) (cc) c.other.ensures
