use Rattle.std.proofs.Common.{◌∙◌, None}
use Rattle.ord_tree.proofs.LeafBranches.{linked-some, neighbours-linked}
use Rattle.ord_tree.proofs.tree.insert.neighbour.Goals as goal

pub returns-in-Lesser : goal.returns-in-Lesser
returns-in-Lesser g c =
    let linked = linked-some _ _ (rw c.get.ensures.value at c.link-link.ensures) in
    rw (c.in-Lesser.is, c.as_link.ensures) (c.prev.ensures.value ∙ (neighbours-linked _ _ _ None c.args.chain.now.entries linked.1).0)

pub returns-in-Greater : goal.returns-in-Greater
returns-in-Greater g c =
    let linked = linked-some _ _ (rw c.get.ensures.value at c.link-link.ensures) in
    rw (c.in-Greater.is, c.as_link-in-Greater.ensures) (c.next.ensures.value ∙ (neighbours-linked _ _ _ None c.args.chain.now.entries linked.1).1)
