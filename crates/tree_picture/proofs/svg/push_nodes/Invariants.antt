use Rattle.std.proofs.Common.{◌≡◌, ◌++◌, string_bytes, take, flat_map}
use Rattle.tree_picture.specs.Svg.{node_element}
use Rattle.tree_picture.proofs.svg.push_nodes.Given as goal

-- the nodes so far
abbrev pub invariant-loop-node : goal.invariant-loop-node
invariant-loop-node g l = string_bytes l.xml ≡ string_bytes l.initial.xml ++ flat_map node_element (take l.node-index l.nodes)
