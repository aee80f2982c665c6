use Rattle.std.proofs.Common.{sym, ◌∙◌}
use Rattle.ord_tree.specs.TreeLinks.{as_numbers}
use Rattle.ord_tree.proofs.Cutting.{v_occupied, rest_occupied, parent_occupied, moves_one, cut_branch, cut_paid}
use Rattle.ord_tree.proofs.{Reading.child_other-read, Steps.takes_out, Demoting.IsBranchOf}
use Rattle.ord_tree.proofs.detach.cut.Goals as goal

pub links-links-requires : goal.links-links-requires
links-links-requires g c = v_occupied c.requires.1

pub branch_of-branch-requires-clause-parent : goal.branch_of-branch-requires-clause-parent
branch_of-branch-requires-clause-parent g c = λ n p e b. parent_occupied c.requires.1 n e p b

pub replace_child-requires : goal.replace_child-requires
replace_child-requires g c = parent_occupied c.requires.1 (as_numbers g.N.Nodes.number c.links-links.result) c.links-links.ensures

pub hang-requires : goal.hang-requires
hang-requires g c = λ i e.
    let number = g.N.Nodes.number in
    let rest_is = child_other-read number c.args.bare _ c.other.ensures c.links-links.result c.child-rest.result c.child-rest.ensures in
    c.replace_child.ensures.occupied i ∙ rest_occupied c.requires.1 (as_numbers number c.links-links.result) c.links-links.ensures i (sym rest_is ∙ e)

pub returns-clause-taken : goal.returns-clause-taken
returns-clause-taken g c =
    let number = g.N.Nodes.number in
    let links = as_numbers number c.links-links.result in
    let rest_is = child_other-read number c.args.bare _ c.other.ensures c.links-links.result c.child-rest.result c.child-rest.ensures in
    let parent = rw rest_is at c.replace_child.ensures in
    let hung = rw rest_is at c.hang.ensures in
    let branch : IsBranchOf number (g.N.Nodes.at c.args.nodes.now) (number c.args.v) c.branch_of-branch.result = record { parent = c.branch_of-branch.ensures.parent; side = c.branch_of-branch.ensures.side } in
    takes_out (cc) (λ order loose. (
      cut_branch loose links c.links-links.ensures parent hung number c.branch_of-branch.result branch,
      cut_paid loose links c.links-links.ensures parent hung number c.branch_of-branch.result branch,
      moves_one loose links c.links-links.ensures parent hung,
    ))
