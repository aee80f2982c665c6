use Rattle.std.proofs.lemmas.Result.{on_ok_weaker}
use Rattle.tree_picture.specs.Svg.{tree_element}
use Rattle.tree_picture.proofs.Pieces.{six}
use Rattle.tree_picture.proofs.svg.push_tree.Goals as goal

pub returns : goal.returns
unfolding tree_element
returns g c =
    on_ok_weaker c.push_group_end.result (six _ _ _ _ _ _ _ c.in_ok-push_lowered.ensures c.in_ok-push_empty_sign.ensures c.in_ok-push_edges.ensures c.in_ok-push_nodes.ensures
    c.in_ok-push_links_if_shown.ensures) c.push_group_end.ensures
