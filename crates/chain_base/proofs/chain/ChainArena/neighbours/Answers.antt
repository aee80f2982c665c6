use Rattle.chain_base.proofs.Places.{PutsBetween-after, PutsBetween-before}
use Rattle.chain_base.proofs.chain.ChainArena.neighbours.Goals as goal

pub returns-in-NextToInx : goal.returns-in-NextToInx
returns-in-NextToInx g c = rw (c.in-NextToInx.is, c.next.ensures.value) (PutsBetween-after c.args.self.now.entries _ c.link.result.now c.link.ensures)

pub returns-in-PrevToInx : goal.returns-in-PrevToInx
returns-in-PrevToInx g c = rw (c.in-PrevToInx.is, c.prev.ensures.value) (PutsBetween-before c.args.self.now.entries _ c.link-in-PrevToInx.result.now c.link-in-PrevToInx.ensures)
