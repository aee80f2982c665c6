use Rattle.listing.proofs.Ended.{ended_pointer}
use Rattle.listing.proofs.laws.ended_pointer_law.Goals as goal

pub returns : goal.returns
returns g c = ended_pointer
