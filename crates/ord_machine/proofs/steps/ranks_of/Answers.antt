use Rattle.std.proofs.Common.{◌≡◌, [], ◌∷◌, ◌++◌}
use Rattle.triple_ord.specs.Ranks.{HasRank}
use Rattle.ord_machine.proofs.{Ranking.link_next, Ranking.HaveRanks-more, Lists.cut_more}
use Rattle.ord_machine.proofs.steps.ranks_of.Goals as goal

pub unwrap-rank-requires : goal.unwrap-rank-requires
unwrap-rank-requires g c =
    let so_far = c.loop-p.invariant in
    rw c.rank_at.ensures.there (link_next c.args.arena.now.list.entries so_far.0 _ _ _ _ so_far.1 c.in-Some.ensures.steps c.inx.ensures)

pub loop-p-preserved : goal.loop-p-preserved
loop-p-preserved g c =
    let so_far = c.loop-p.invariant in
    let items : c.push.new.self.items ≡ c.loop-p.ranks.items ++ c.unwrap-rank.result ∷ [] = c.in_ok-push.ensures.items in
    let rank : HasRank c.args.arena.now.shape (g.P.BasePtr.numbers c.in-Some.p).0 c.unwrap-rank.result =
    rw c.inx.ensures at (rw c.unwrap-rank.ensures at c.rank_at.ensures.rank) in (
      so_far.0 ++ record { index = (g.P.BasePtr.numbers c.in-Some.p).0; generation = (g.P.BasePtr.numbers c.in-Some.p).1; item = c.in-Some.field-0-1.now } ∷ [],
      cut_more _ _ _ _ _ so_far.1 c.in-Some.ensures.steps,
      rw items (HaveRanks-more _ _ _ rank _ _ so_far.2),
    )
