use Rattle.std.proofs.Common.{◌≡◌, ◌++◌, None, string_bytes, drop}
use Rattle.tree_picture.specs.Svg.{list_links}
use Rattle.tree_picture.proofs.svg.push_links.Given as goal

-- the links so far, and those that are left
abbrev pub invariant-loop-node : goal.invariant-loop-node
invariant-loop-node g l =
    string_bytes l.xml ++ list_links l.before (drop l.node-index l.nodes) ≡ string_bytes l.initial.xml ++ list_links None l.nodes
