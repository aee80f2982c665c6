use Rattle.triple_ord.proofs.CallerLemmas.{renews-renewed, count-renewed}
use Rattle.triple_ord.proofs.arena.SimpleOrdArena.invalidate.Goals as goal

pub returns-clause-renews : goal.returns-clause-renews
returns-clause-renews g c =
    let q = c.invalidate.ensures in
    rw (← c.self.view_is) (renews-renewed g.P.BasePtr.numbers g.P.Gen.BasePtrGen.greatest c.self.inside.tree _ (g.P.BasePtr.numbers c.args.p) _ q.valid (q.index, q.generation) q.renewed)

pub returns-clause-count : goal.returns-clause-count
returns-clause-count g c =
    rw (← c.self.view_is) (count-renewed g.P.BasePtr.numbers g.P.Gen.BasePtrGen.greatest c.self.inside.tree _ (g.P.BasePtr.numbers c.args.p) _ c.invalidate.ensures.renewed c.invalidate.ensures.invalid)
