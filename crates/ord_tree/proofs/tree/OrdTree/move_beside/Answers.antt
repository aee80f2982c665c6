use Rattle.std.proofs.Common.{◌∙◌, sym, option_map}
use Rattle.ord_tree.specs.{Node.slots_of, Node.indexes, Detach.without, LeafBranch.IsLeafBranch}
use Rattle.ord_tree.proofs.{Shrunk.IsTakenOut, Shrunk.taken_out, Shrunk.still_in, Shrunk.detachable, Trees.is_some-bare}
use Rattle.ord_tree.proofs.Moving.{can_place, y_in, x_in, x_slot, aside, new_leaf, laid_again, list_moved, rearranged}
use Rattle.ord_tree.proofs.tree.OrdTree.move_beside.Goals.{After-detach, After-branch_across-branch}
use Rattle.ord_tree.proofs.tree.OrdTree.move_beside.Goals as goal

pub node_at-z-requires : goal.node_at-z-requires
node_at-z-requires g c = let held = rw (← c.self.view_is) at c.requires.entry in sym (is_some-bare c.self.inside.chain.entries _) ∙ held

pub neighbour-before-requires : goal.neighbour-before-requires
neighbour-before-requires g c = let held = rw (← c.self.view_is) at c.requires.entry in rw c.node_at-z.ensures (sym (is_some-bare c.self.inside.chain.entries _) ∙ held)

pub detach-requires : goal.detach-requires
detach-requires g c =
    let held = rw (← c.self.view_is) at c.requires.entry in
    rw c.node_at-z.ensures (
      _,
      detachable c.self.inside.chain (option_map g.P.Inx.BasePtrInx.number c.self.inside.root) _ c.self.invariant (sym (is_some-bare c.self.inside.chain.entries _) ∙ held)
          g.P.Inx.BasePtrInx.most g.P.Gen.BasePtrGen.greatest c.len.ensures.sound g.met.P.Inx.BasePtrInx.fits _ (rw c.node_at-z.ensures at c.neighbour-before.ensures),
    )

-- the entry's node was taken out of the tree
out : (g : _) (c : After-detach g) → IsTakenOut c.self.inside.chain (option_map g.P.Inx.BasePtrInx.number c.self.inside.root) c.detach.new.nodes (option_map g.P.Inx.BasePtrInx.number c.detach.new.root) (g.P.Inx.BasePtrInx.number c.args.i)
out g c =
    let number = g.P.Inx.BasePtrInx.number in
    let held = rw (← c.self.view_is) at c.requires.entry in
    taken_out c.self.inside.chain (option_map number c.self.inside.root) _ c.self.invariant (sym (is_some-bare c.self.inside.chain.entries _) ∙ held)
    g.P.Inx.BasePtrInx.most g.P.Gen.BasePtrGen.greatest c.len.ensures.sound g.met.P.Inx.BasePtrInx.fits _ (rw c.node_at-z.ensures at c.neighbour-before.ensures)
    c.detach.new.nodes (option_map number c.detach.new.root) c.detach.ensures.kept (rw c.node_at-z.ensures at c.detach.ensures.after) (rw c.node_at-z.ensures at c.detach.ensures.backs)
    (rw c.node_at-z.ensures at c.detach.ensures.account)

pub move_beside-requires-clause-entry : goal.move_beside-requires-clause-entry
move_beside-requires-clause-entry g c = still_in (out g (goal.at.move_beside-requires-clause-entry g c).After-detach)

pub move_beside-requires-clause-place : goal.move_beside-requires-clause-place
move_beside-requires-clause-place g c =
    can_place (out g (goal.at.move_beside-requires-clause-place g c).After-detach) g.P.Inx.BasePtrInx.number c.args.at (rw (← c.self.view_is) at c.requires.place) c.kind_of.result c.kind_of.ensures

pub node_at-y-requires : goal.node_at-y-requires
node_at-y-requires g c = let number = g.P.Inx.BasePtrInx.number in y_in (out g (goal.at.node_at-y-requires g c).After-detach) number c.args.at (rw (← c.self.view_is) at c.requires.place) c.move_beside.new.self c.kind_of.result c.kind_of.ensures c.move_beside.ensures

pub branch_across-branch-requires-clause-beside : goal.branch_across-branch-requires-clause-beside
branch_across-branch-requires-clause-beside g c =
    let number = g.P.Inx.BasePtrInx.number in rw c.node_at-y.ensures (y_in (out g (goal.at.branch_across-branch-requires-clause-beside g c).After-detach) number c.args.at (rw (← c.self.view_is) at c.requires.place) c.move_beside.new.self c.kind_of.result c.kind_of.ensures c.move_beside.ensures)

pub branch_across-branch-requires-clause-leaf : goal.branch_across-branch-requires-clause-leaf
branch_across-branch-requires-clause-leaf g c =
    let number = g.P.Inx.BasePtrInx.number in rw c.node_at-z.ensures (x_in (out g (goal.at.branch_across-branch-requires-clause-leaf g c).After-detach) number c.args.at (rw (← c.self.view_is) at c.requires.place) c.move_beside.new.self c.kind_of.result c.kind_of.ensures c.move_beside.ensures)

pub branch_across-branch-requires-clause-aside : goal.branch_across-branch-requires-clause-aside
branch_across-branch-requires-clause-aside g c =
    let number = g.P.Inx.BasePtrInx.number in
    rw (c.node_at-y.ensures, c.node_at-z.ensures) (_, _, aside (out g (goal.at.branch_across-branch-requires-clause-aside g c).After-detach) number c.args.at (rw (← c.self.view_is) at c.requires.place) c.move_beside.new.self c.kind_of.result c.kind_of.ensures c.move_beside.ensures)

-- the branch on which the node is hung again
branch : (g : _) (c : After-branch_across-branch g)
    → IsTakenOut c.self.inside.chain (option_map g.P.Inx.BasePtrInx.number c.self.inside.root) c.detach.new.nodes (option_map g.P.Inx.BasePtrInx.number c.detach.new.root) (g.P.Inx.BasePtrInx.number c.args.i)
    → IsLeafBranch g.P.Inx.BasePtrInx.number (g.P.Inx.BasePtrInx.number c.args.at.0) c.args.at.1 (slots_of c.move_beside.new.self) (without (g.P.Inx.BasePtrInx.number c.args.i) (indexes c.self.inside.chain.entries)) c.branch_across-branch.result
branch g c out =
    let number = g.P.Inx.BasePtrInx.number in
    let bud = rw (c.node_at-y.ensures, c.node_at-z.ensures) at c.branch_across-branch.ensures in
    bud _ _ (aside out number c.args.at (rw (← c.self.view_is) at c.requires.place) c.move_beside.new.self c.kind_of.result c.kind_of.ensures c.move_beside.ensures)

pub set_links-requires : goal.set_links-requires
set_links-requires g c =
    let number = g.P.Inx.BasePtrInx.number in rw c.node_at-z.ensures (x_slot (out g (goal.at.set_links-requires g c).After-detach) number c.args.at (rw (← c.self.view_is) at c.requires.place) c.move_beside.new.self c.kind_of.result c.kind_of.ensures c.move_beside.ensures)

pub add_leaf-requires : goal.add_leaf-requires
add_leaf-requires g c =
    let number = g.P.Inx.BasePtrInx.number in
    let out = out g (goal.at.add_leaf-requires g c).After-detach in
    let branch = branch g (goal.at.add_leaf-requires g c).After-branch_across-branch out in
    rw c.node_at-z.ensures (_, 1, new_leaf out number c.args.at (rw (← c.self.view_is) at c.requires.place) c.move_beside.new.self c.kind_of.result c.kind_of.ensures c.move_beside.ensures c.set_links.new.self _ branch (rw c.node_at-z.ensures at c.set_links.ensures))

pub invariant_of-self : goal.invariant_of-self
invariant_of-self g c =
    let number = g.P.Inx.BasePtrInx.number in
    let out = out g (goal.at.invariant_of-self g c).After-detach in
    let branch = branch g (goal.at.invariant_of-self g c).After-branch_across-branch out in
    laid_again out number c.args.at (rw (← c.self.view_is) at c.requires.place) c.move_beside.new.self c.kind_of.result c.kind_of.ensures c.move_beside.ensures c.set_links.new.self _ branch (rw c.node_at-z.ensures at c.set_links.ensures)
    c.self.invariant c.add_leaf.new.nodes (option_map number c.add_leaf.new.root) c.add_leaf.ensures.kept (λ order slack. (rw c.node_at-z.ensures at c.add_leaf.ensures.after) (order, slack))

pub returns-clause-list : goal.returns-clause-list
returns-clause-list g c =
    let number = g.P.Inx.BasePtrInx.number in
    let out = out g (goal.at.returns-clause-list g c).After-detach in
    let branch = branch g (goal.at.returns-clause-list g c).After-branch_across-branch out in
    rw (← c.self.view_is) (list_moved out number c.args.at (rw (← c.self.view_is) at c.requires.place) c.move_beside.new.self c.kind_of.result c.kind_of.ensures c.move_beside.ensures c.set_links.new.self _ branch (rw c.node_at-z.ensures at c.set_links.ensures)
    c.self.invariant c.add_leaf.new.nodes (option_map number c.add_leaf.new.root) c.add_leaf.ensures.kept (λ order slack. (rw c.node_at-z.ensures at c.add_leaf.ensures.after) (order, slack)))

pub returns-clause-shape : goal.returns-clause-shape
returns-clause-shape g c =
    let number = g.P.Inx.BasePtrInx.number in
    let out = out g (goal.at.returns-clause-shape g c).After-detach in
    let branch = branch g (goal.at.returns-clause-shape g c).After-branch_across-branch out in
    rw (← c.self.view_is) (rearranged out number c.args.at (rw (← c.self.view_is) at c.requires.place) c.move_beside.new.self c.kind_of.result c.kind_of.ensures c.move_beside.ensures c.set_links.new.self _ branch (rw c.node_at-z.ensures at c.set_links.ensures)
    c.self.invariant c.add_leaf.new.nodes (option_map number c.add_leaf.new.root) c.add_leaf.ensures.kept (λ order slack. (rw c.node_at-z.ensures at c.add_leaf.ensures.after) (order, slack))
    (λ order slack. (rw c.node_at-z.ensures at c.add_leaf.ensures.account) (order, slack)))
