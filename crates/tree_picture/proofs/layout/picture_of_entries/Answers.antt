use Rattle.std.proofs.Common.{None, length, arith, ap, ◌∙◌}
use Rattle.triple_ord.specs.Shape.{height}
use Rattle.triple_ord.specs.Search.{pointer}
use Rattle.tree_picture.specs.Below.{part_below}
use Rattle.tree_picture.proofs.LayoutLaws.{length-laid}
use Rattle.tree_picture.proofs.LinkedParts.{size-listed}
use Rattle.tree_picture.proofs.Listing.{as-many}
use Rattle.tree_picture.proofs.Parts.{whole-found}
use Rattle.tree_picture.proofs.layout.picture_of_entries.Goals as goal

pub nodes_at-requires : goal.nodes_at-requires
nodes_at-requires g c =
    ap length (c.deref.ensures.value ∙ c.in_ok-places.ensures) ∙ length-laid 0 0 None c.args.arena.now.shape ∙ size-listed c.args.arena.now c.len.ensures.tree

pub invariant_of-result : goal.invariant_of-result
invariant_of-result g c =
    record { within = omega (arith, as-many (λ n. g.P.BasePtr.numbers n.pointer) pointer c.in_ok-nodes.nodes.items c.args.arena.now.list.entries c.in_ok-nodes.ensures.pointers, c.if-len-gt-MOST_ENTRIES.false, c.len.ensures.value) }

pub returns-clause-levels : goal.returns-clause-levels
returns-clause-levels g c =
    c.extent_below-levels.ensures.levels ∙ ap height (ap (part_below c.args.arena.now.shape) c.root.ensures ∙ whole-found c.args.arena.now.shape)

pub extent_below-levels-requires : goal.extent_below-levels-requires
extent_below-levels-requires g c =
    rw (c.root.ensures, whole-found c.args.arena.now.shape) (omega (arith, size-listed c.args.arena.now c.len.ensures.tree, c.if-len-gt-MOST_ENTRIES.false, c.len.ensures.value))
