use Rattle.triple_ord.proofs.Words.{capacity-within}
use Rattle.triple_ord.proofs.arena.traits.SimpleOrdArenaArenaTrait.capacity.Goals as goal

pub returns-clause-limit : goal.returns-clause-limit
returns-clause-limit g c = capacity-within _ _ c.args.self.now c.capacity.ensures.sound
