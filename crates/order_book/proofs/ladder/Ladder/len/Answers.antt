use Rattle.order_book.proofs.Standing.{sound-rows}
use Rattle.order_book.proofs.ladder.Ladder.len.Goals as goal

pub returns-clause-sound : goal.returns-clause-sound
returns-clause-sound g c = sound-rows c.args.self.now.orders c.args.self.now.levels c.requires c.len.ensures.sound
