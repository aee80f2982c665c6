use Rattle.chain_base.proofs.chain.ChainArena.inc_generation.Goals as goal

pub invariant_of-self : goal.invariant_of-self
invariant_of-self g c = rw c.inc_generation.ensures.after c.self.invariant
