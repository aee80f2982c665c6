use Rattle.chain_base.proofs.chain.ChainArena.set_generation.Goals as goal

pub invariant_of-self : goal.invariant_of-self
invariant_of-self g c = rw c.set_generation.ensures c.self.invariant
