use Rattle.std.proofs.Common.{option_map}
use Rattle.triple_ord.specs.Shape.{height}
use Rattle.tree_picture.specs.Below.{part_below}
use Rattle.tree_picture.proofs.layout.+lay.Given as goal

-- the number of levels below the link
abbrev pub decreases-lay : goal.decreases-lay
decreases-lay g l = height (part_below l.arena.now.shape (option_map g.P.Inx.BasePtrInx.number l.link))
