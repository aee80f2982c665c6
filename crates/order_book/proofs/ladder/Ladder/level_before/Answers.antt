use Rattle.std.proofs.Common.{◌∙◌, sym}
use Rattle.order_book.proofs.Places.{same-pointer}
use Rattle.order_book.proofs.Reading.{before-cut}
use Rattle.order_book.proofs.ladder.Ladder.level_before.Goals as goal

pub returns-in-Some : goal.returns-in-Some
returns-in-Some g c = λ low high cut first.
    sym (same-pointer c.prev.result) ∙ c.prev.ensures.value ∙ before-cut c.args.self.now.levels.entries c.prev.ensures.sound.distinct low high cut c.in-Some.level (sym c.in-Some.is ∙ first)
