use Rattle.chain_base.proofs.chain.ChainArena.len.Goals as goal
use Rattle.chain_base.proofs.Sound.{IsSound-laid_out}

pub returns-clause-sound : goal.returns-clause-sound
returns-clause-sound g c = rw (← c.self.view_is) (IsSound-laid_out _ _ c.self.inside.arena _ _ c.self.invariant c.len.ensures.sound)
