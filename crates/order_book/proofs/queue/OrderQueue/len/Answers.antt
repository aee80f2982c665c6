use Rattle.order_book.proofs.Naming.{sound-found}
use Rattle.order_book.specs.Ladder.{rows_of}
use Rattle.order_book.proofs.queue.OrderQueue.len.Goals as goal

pub returns-clause-sound : goal.returns-clause-sound
returns-clause-sound g c = rw (← c.self.view_is) (sound-found c.self.inside.side (rows_of c.self.inside.ladder.orders) c.len.ensures.sound c.self.invariant.lawful)
