use Rattle.listing.proofs.Kept.{kept_pointer}
use Rattle.listing.proofs.laws.kept_pointer_law.Goals as goal

pub returns : goal.returns
returns g c = kept_pointer
