use Rattle.ord_machine.proofs.Ranking.{HasRank-part}
use Rattle.ord_machine.proofs.steps.rank_at.Goals as goal

pub returns-clause-rank : goal.returns-clause-rank
returns-clause-rank g c =
    let node = rw (← c.node.view_is) at c.in_ok-entry.ensures.node in
    HasRank-part c.args.arena.now.shape node.lesser_side node.greater_side (g.P.Inx.BasePtrInx.number c.args.i) c.node.inside.t.rank node.part
