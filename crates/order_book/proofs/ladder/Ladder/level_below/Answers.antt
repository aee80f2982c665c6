use Rattle.std.proofs.Common.{◌∙◌, sym, ap}
use Rattle.sorted_arena.specs.Chain.{last_pointer}
use Rattle.order_book.proofs.Places.{same-pointer}
use Rattle.order_book.proofs.Reading.{cut-below, below-first}
use Rattle.order_book.proofs.ladder.Ladder.level_below.Goals as goal

pub returns : goal.returns
returns g c =
    let ls = c.args.self.now.levels.entries in
    let cut = cut-below c.args.rank ls c.requires in
    c.level_before.ensures cut.low cut.high cut.cut (sym (same-pointer c.lower_bound.result) ∙ c.lower_bound.ensures.value ∙ below-first c.args.rank ls c.requires) ∙ ap last_pointer (sym cut.low_is)
