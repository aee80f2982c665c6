use Rattle.triple_ord.proofs.Content.{steps-under}
use Rattle.triple_ord.proofs.arena.slots.PtrAdvancerAdvancerSimpleOrdArena.advance.Goals as goal

pub returns-clause-step : goal.returns-clause-step
returns-clause-step g c =
    let nodes = rw c.arena.view_is at c.arena-nodes.ensures in
    steps-under _ _ c.args.arena.now c.len.ensures.sound _ _ _ nodes.below nodes.holds c.capacity.ensures.sound.begins _ _ _ c.advance.ensures.step
