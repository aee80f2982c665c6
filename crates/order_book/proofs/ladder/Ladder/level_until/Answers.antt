use Rattle.std.proofs.Common.{◌∙◌, sym, ap}
use Rattle.sorted_arena.specs.Chain.{last_pointer}
use Rattle.order_book.proofs.Places.{same-pointer}
use Rattle.order_book.proofs.Reading.{cut-until, until-first}
use Rattle.order_book.proofs.ladder.Ladder.level_until.Goals as goal

pub returns : goal.returns
returns g c =
    let ls = c.args.self.now.levels.entries in
    let cut = cut-until c.args.rank ls c.requires in
    c.level_before.ensures cut.low cut.high cut.cut (sym (same-pointer c.upper_bound.result) ∙ c.upper_bound.ensures.value ∙ until-first c.args.rank ls c.requires) ∙ ap last_pointer (sym cut.low_is)
