use Rattle.std.proofs.Common.{arith, ap}
use Rattle.triple_ord.specs.Shape.{size_of, height}
use Rattle.triple_ord.proofs.TreeLemmas.{height-le-size}
use Rattle.tree_picture.specs.Below.{part_at}
use Rattle.tree_picture.proofs.LinkedParts.{max-fits}
use Rattle.tree_picture.proofs.below.+extent_below.Goals as goal

pub overflow_add-result : goal.overflow_add-result
overflow_add-result g t c =
    let few = rw c.in-Some.is at c.requires in
    omega (arith, few, ap size_of c.in-Some-branch_at.ensures)

pub overflow_add-result-2 : goal.overflow_add-result-2
overflow_add-result-2 g t c =
    let few = rw c.in-Some.is at c.requires in
    omega (arith, few, ap size_of c.in-Some-branch_at.ensures)

pub overflow_add-result-3 : goal.overflow_add-result-3
overflow_add-result-3 g t c =
    let few = rw c.in-Some.is at c.requires in
    max-fits _ _ _ _ _ _ c.extent_below-lesser.ensures.levels c.extent_below-greater.ensures.levels c.max.ensures (ap height c.in-Some-branch_at.ensures)
    (omega (arith, few, height-le-size (part_at c.args.arena.now.shape (g.P.Inx.BasePtrInx.number c.in-Some.i))))
