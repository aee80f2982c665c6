use Rattle.chain_base.proofs.Ends.{contains-laid_out}
use Rattle.chain_base.proofs.chain.ChainArena.contains.Goals as goal

pub returns : goal.returns
returns g c = rw (← c.self.view_is, c.contains.ensures) (contains-laid_out c.self.inside.arena _ _ c.self.invariant _)
