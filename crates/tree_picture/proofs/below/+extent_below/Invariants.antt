use Rattle.std.proofs.Common.{option_map}
use Rattle.triple_ord.specs.Shape.{height}
use Rattle.tree_picture.specs.Below.{part_below}
use Rattle.tree_picture.proofs.below.+extent_below.Given as goal

-- the number of levels below the link
abbrev pub decreases-extent_below : goal.decreases-extent_below
decreases-extent_below g l = height (part_below l.arena.now.shape (option_map g.P.Inx.BasePtrInx.number l.link))
