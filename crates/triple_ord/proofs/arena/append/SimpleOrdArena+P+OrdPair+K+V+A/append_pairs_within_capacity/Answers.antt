use Rattle.std.proofs.Common.{rules}
use Rattle.triple_ord.proofs.Appending.{appends-all}
use Rattle.triple_ord.proofs.arena.append.SimpleOrdArena+P+OrdPair+K+V+A.append_pairs_within_capacity.Goals as goal

pub returns : goal.returns
returns g c =
    let call = c.append_within_capacity in
    rw (← c.self.view_is) (appends-all c.self.inside.tree call.new.self c.args.added (search rules) call.result call.ensures.ok call.ensures.err
    call.ensures.shape call.ensures.none call.ensures.full call.ensures.back)
