use Rattle.std.proofs.Common.{sym}
use Rattle.tree_picture.proofs.LinkedParts.{branch-found, branch-missing}
use Rattle.tree_picture.proofs.below.branch_at.Goals as goal

pub returns-in_err-entry : goal.returns-in_err-entry
returns-in_err-entry g c =
    rw c.from_residual.ensures (branch-missing c.args.arena.now c.in_err-entry.ensures.tree (g.P.Inx.BasePtrInx.number c.args.i) (sym c.in_err-entry.ensures.entry))

pub returns : goal.returns
returns g c =
    let at = rw (← c.node.view_is) at c.in_ok-entry.ensures.node in
    rw (c.get.ensures.value, c.get-2.ensures.value)
    (branch-found c.args.arena.now c.in_ok-entry.ensures.tree (g.P.Inx.BasePtrInx.number c.args.i) c.node.inside.t.rank _ _ _ c.in_ok-entry.ensures.sound.distinct at)
