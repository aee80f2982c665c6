use Rattle.std.proofs.Common.{◌≡◌, ◌++◌, string_bytes, take, flat_map}
use Rattle.tree_picture.specs.Svg.{panel_element}
use Rattle.tree_picture.proofs.svg.push_panels.Given as goal

-- the panels so far
abbrev pub invariant-loop-panel : goal.invariant-loop-panel
invariant-loop-panel g l = string_bytes l.xml ≡ string_bytes l.initial.xml ++ flat_map (panel_element l.links) (take l.panel-index l.panels)
