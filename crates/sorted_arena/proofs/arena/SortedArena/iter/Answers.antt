use Rattle.std.proofs.Common.{◌∙◌}
use Rattle.sorted_arena.proofs.Stretching.{whole-stretch, whole-stretched}
use Rattle.sorted_arena.proofs.arena.SortedArena.iter.Goals as goal

pub from_until-requires : goal.from_until-requires
from_until-requires g c sound = rw c.first.ensures.value (whole-stretch c.args.self.now.entries sound.distinct)

pub returns : goal.returns
returns g c = record {
  entries = c.from_until.ensures.entries ∙ rw c.first.ensures.value (whole-stretched c.args.self.now.entries c.first.ensures.sound.distinct);
  sound = c.first.ensures.sound;
  chains = c.from_until.ensures.chains;
}
