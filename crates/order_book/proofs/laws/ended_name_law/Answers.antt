use Rattle.order_book.proofs.Names.{ended_name}
use Rattle.order_book.proofs.laws.ended_name_law.Goals as goal

pub returns : goal.returns
returns g c = ended_name
