use Rattle.std.proofs.Common.{◌≡◌, ◌∙◌, refl, arith}
use Rattle.triple_ord.specs.Shape.{Shape, missing, node, size_of}
use Rattle.tree_picture.proofs.LinkedParts.{size-listed}
use Rattle.tree_picture.proofs.layout.empty_picture.Goals as goal

-- a shape without nodes
without-nodes : (s : Shape) → size_of s ≡ 0 → s ≡ missing
without-nodes missing none = refl
without-nodes (node l i k r) none = absurd (omega (arith, none))

pub returns-clause-places : goal.returns-clause-places
returns-clause-places g c =
    rw (without-nodes c.args.arena.now.shape (size-listed c.args.arena.now c.len.ensures.tree ∙ c.requires), c.new.ensures.items) refl

pub returns-clause-levels : goal.returns-clause-levels
returns-clause-levels g c = rw (without-nodes c.args.arena.now.shape (size-listed c.args.arena.now c.len.ensures.tree ∙ c.requires)) refl
