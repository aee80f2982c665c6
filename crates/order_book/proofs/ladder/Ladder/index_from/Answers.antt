use Rattle.std.proofs.Common.{◌∙◌, ℕ, Some, sym, ap, option_map}
use Rattle.order_book.specs.Ladder.{rows_left}
use Rattle.order_book.proofs.Rows.{rows-distinct}
use Rattle.order_book.proofs.Places.{some-same, some-mapped}
use Rattle.order_book.proofs.Reading.{whole-rows, from-first, from-linked, below-found, below-occupied}
use Rattle.order_book.proofs.ladder.Ladder.index_from.Goals as goal

pub returns-in_default : goal.returns-in_default
returns-in_default g c =
    let es = c.args.self.now.orders.entries in
    ap (rows_left es) (ap (λ (i : ℕ). Some i) c.inx.ensures ∙ ap (option_map (λ (p : ℕ × ℕ). p.0)) c.in_ok-first.ensures) ∙ whole-rows es
    ∙ from-first c.args.rank c.args.self.now.levels.entries es c.requires.laid c.requires.rising c.in_default.ensures

pub unwrap-requires : goal.unwrap-requires
unwrap-requires g c = some-mapped _ c.get.result _ (c.get.ensures
    ∙ below-found c.args.rank c.args.self.now.levels.entries c.args.self.now.orders.entries c.requires.laid c.requires.rising c.in-Some.level c.in-Some.ensures c.len.ensures.sound.distinct)

pub link-requires : goal.link-requires
link-requires g c =
    let ls = c.args.self.now.levels.entries in
    let es = c.args.self.now.orders.entries in
    let found = sym (ap (option_map _) (sym c.unwrap.ensures) ∙ c.get.ensures) in
    below-occupied c.args.rank ls es c.requires.laid c.requires.rising c.in-Some.level c.in-Some.ensures (c.unwrap.result.0.now, c.unwrap.result.1.now)
    (some-same (sym (below-found c.args.rank ls es c.requires.laid c.requires.rising c.in-Some.level c.in-Some.ensures c.len.ensures.sound.distinct) ∙ found))

pub returns : goal.returns
returns g c =
    let ls = c.args.self.now.levels.entries in
    let es = c.args.self.now.orders.entries in
    let found = sym (ap (option_map _) (sym c.unwrap.ensures) ∙ c.get.ensures) in
    from-linked c.args.rank ls es c.requires.laid c.requires.rising c.in-Some.level c.in-Some.ensures (c.unwrap.result.0.now, c.unwrap.result.1.now)
    (some-same (sym (below-found c.args.rank ls es c.requires.laid c.requires.rising c.in-Some.level c.in-Some.ensures c.len.ensures.sound.distinct) ∙ found))
    (rows-distinct es c.requires.distinct) c.link.result.now c.link.ensures c.next.result c.next.ensures.value
