use Rattle.std.proofs.Common.{append_assoc}
use Rattle.ord_script.proofs.text.push_stats.Goals as goal

pub returns : goal.returns
returns g c = simp append_assoc c.write.ensures.bytes
