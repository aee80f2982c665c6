-- The tree links of a node: parent, sides and rank. No public clause cites this file.
use Rattle.std.specs.Prelude.{ℕ, Option, option_map}
use Rattle.ord_tree.specs.declared.tree_links.Side.TheVariants.{Lesser, Greater}
use Rattle.ord_tree.specs.{declared.tree_links.TreeLinks.TreeLinks, declared.tree_links.Side.Side}

-- the opposite side
abbrev pub other_side : Side → Side
other_side Lesser = Greater
other_side Greater = Lesser

-- the root of a side
abbrev pub child_at : {I : Type 0} → Side → TreeLinks I → Option I
child_at Lesser n = n.lesser
child_at Greater n = n.greater

-- the same links with another root of a side
abbrev pub with_child_at : {I : Type 0} → Side → Option I → TreeLinks I → TreeLinks I
with_child_at Lesser child n = record n { lesser = child }
with_child_at Greater child n = record n { greater = child }

-- the links with each index as its number
abbrev pub as_numbers : {I : Type 0} → (I → ℕ) → TreeLinks I → TreeLinks ℕ
as_numbers number n = record {
  back = option_map number n.back;
  lesser = option_map number n.lesser;
  greater = option_map number n.greater;
  rank = n.rank;
}
