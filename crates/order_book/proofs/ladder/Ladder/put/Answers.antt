use Rattle.std.proofs.Common.{◌∙◌, sym, ap, option_map}
use Rattle.order_book.proofs.Places.{some-same, some-mapped}
use Rattle.order_book.proofs.Beginning.{between-none, between-some, end-found}
use Rattle.order_book.proofs.ladder.Ladder.put.Goals as goal

pub begin_level-requires-clause-between : goal.begin_level-requires-clause-between
begin_level-requires-clause-between g c = between-none c.args.self.now.orders c.args.self.now.levels c.requires.ladder c.args.rank c.in_default-level_until.ensures

pub unwrap-requires : goal.unwrap-requires
unwrap-requires g c = some-mapped _ c.get.result _ (c.get.ensures ∙ end-found c.args.self.now.orders c.args.self.now.levels c.requires.ladder c.args.rank c.in-Some-level_until.level c.in-Some-level_until.ensures c.len.ensures.sound.distinct)

pub begin_level-requires-2-clause-between : goal.begin_level-requires-2-clause-between
begin_level-requires-2-clause-between g c =
    let found = sym (ap (option_map _) (sym c.unwrap.ensures) ∙ c.get.ensures) in
    between-some c.args.self.now.orders c.args.self.now.levels c.requires.ladder c.args.rank c.in-Some-level_until.level c.in-Some-level_until.ensures (c.unwrap.result.0.now, c.unwrap.result.1.now)
    (some-same (sym (end-found c.args.self.now.orders c.args.self.now.levels c.requires.ladder c.args.rank c.in-Some-level_until.level c.in-Some-level_until.ensures c.len.ensures.sound.distinct) ∙ found)) c.if-key-rank.false
