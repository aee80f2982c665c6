use Rattle.std.proofs.Common.{◌∙◌, IsSome, ap, rules}
use Rattle.listing.specs.Chain.{item_of}
use Rattle.std.specs.Ordering.{is_lt}
use Rattle.sorted_arena.specs.Met.{AnswersBy}
use Rattle.sorted_arena.proofs.Comparing.{met-from, met-named, answer-told, if_some}
use Rattle.sorted_arena.proofs.met.first_from_in.Goals as goal

pub returns-clause-named : goal.returns-clause-named
returns-clause-named g c sound =
    if_some g.P.BasePtr.numbers (λ q. IsSome (item_of c.args.pairs.now.list.entries q)) c.behind_met.result _ (c.behind_met.ensures sound.distinct)
    (met-named g.K.Ord.cmp _ _ _ _ sound.distinct sound.sorted _ _ c.find_similar_with-met.ensures.2)

pub returns-clause-first : goal.returns-clause-first
returns-clause-first g c order compares distinct up =
    c.behind_met.ensures distinct ∙ met-from order _ _ _ distinct up _ _ _ c.find_similar_with-met.ensures.2
    (λ s h asks.
    let called = asks.called in
    let told : AnswersBy g.F.Fn c.args.f.now asks.item.now.0 is_lt s.1 = search rules in
    (answer-told g.F.Fn c.args.f.now order compares is_lt _ s.1 (rw (ap (λ x. x.0) asks.shows) at told), search rules))
