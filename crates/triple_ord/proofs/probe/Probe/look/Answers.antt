use Rattle.triple_ord.proofs.Bare.{shows-entry, shows-link}
use Rattle.triple_ord.proofs.probe.Probe.look.Goals as goal

pub returns : goal.returns
returns g c = record { node = shows-entry c.entry.ensures; linked = shows-link c.entry.ensures }
