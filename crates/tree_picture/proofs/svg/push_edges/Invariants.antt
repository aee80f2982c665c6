use Rattle.std.proofs.Common.{◌≡◌, ◌++◌, string_bytes, take, flat_map}
use Rattle.tree_picture.specs.Svg.{edge_of}
use Rattle.tree_picture.proofs.svg.push_edges.Given as goal

-- the lines so far
abbrev pub invariant-loop-node : goal.invariant-loop-node
invariant-loop-node g l = string_bytes l.xml ≡ string_bytes l.initial.xml ++ flat_map (λ n. edge_of l.nodes n.place) (take l.node-index l.nodes)
