use Rattle.std.proofs.Common.{arith}
use Rattle.triple_ord.proofs.TreeLemmas.{height-le-size}
use Rattle.tree_picture.proofs.LinkedParts.{size-listed}
use Rattle.tree_picture.proofs.Parts.{whole-found}
use Rattle.tree_picture.proofs.layout.places_of.Goals as goal

pub lay-requires-clause-columns : goal.lay-requires-clause-columns
lay-requires-clause-columns g c =
    rw (c.in_ok-places.ensures.items, c.root.ensures, whole-found c.args.arena.now.shape) (omega (arith, size-listed c.args.arena.now c.len.ensures.tree, c.requires))

pub lay-requires-clause-levels : goal.lay-requires-clause-levels
lay-requires-clause-levels g c =
    rw (c.root.ensures, whole-found c.args.arena.now.shape)
    (omega (arith, height-le-size c.args.arena.now.shape, size-listed c.args.arena.now c.len.ensures.tree, c.requires))
