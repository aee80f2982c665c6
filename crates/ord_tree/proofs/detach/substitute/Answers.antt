use Rattle.std.proofs.Common.{◌∙◌}
use Rattle.ord_tree.specs.TreeLinks.{as_numbers}
use Rattle.ord_tree.proofs.Standing.{z_occupied, lesser_occupied, greater_occupied, parent_occupied, Holds-substituted, moves_three}
use Rattle.ord_tree.proofs.detach.substitute.Goals as goal

pub links-links-requires : goal.links-links-requires
links-links-requires g c = z_occupied c.requires.1

pub replace_child-requires : goal.replace_child-requires
replace_child-requires g c = parent_occupied c.requires.1 (as_numbers g.N.Nodes.number c.links-links.result) c.links-links.ensures

pub hang-requires : goal.hang-requires
hang-requires g c = λ i link. c.replace_child.ensures.occupied i ∙ lesser_occupied c.requires.1 (as_numbers g.N.Nodes.number c.links-links.result) c.links-links.ensures i link

pub hang-requires-2 : goal.hang-requires-2
hang-requires-2 g c = λ i link.
    c.hang.ensures.occupied i ∙ c.replace_child.ensures.occupied i ∙ greater_occupied c.requires.1 (as_numbers g.N.Nodes.number c.links-links.result) c.links-links.ensures i link

pub returns : goal.returns
returns g c =
    let links = as_numbers g.N.Nodes.number c.links-links.result in
    record {
      held = λ s can. Holds-substituted can links c.links-links.ensures c.replace_child.ensures c.hang.ensures c.hang-2.ensures c.set_links.ensures;
      backs = λ s can. moves_three can links c.links-links.ensures c.replace_child.ensures c.hang.ensures c.hang-2.ensures c.set_links.ensures;
      kept = cc;
    }
