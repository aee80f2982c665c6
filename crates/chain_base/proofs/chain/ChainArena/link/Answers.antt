use Rattle.std.proofs.Common.{refl}
use Rattle.chain_base.proofs.Ends.{occupied-laid_out}
use Rattle.chain_base.proofs.chain.ChainArena.link.Goals as goal

pub entry-requires : goal.entry-requires
entry-requires g c = occupied-laid_out c.self.inside.arena _ _ c.self.invariant _ (let held = rw (← c.self.view_is) at c.requires in held)

pub returns : goal.returns
returns g c = rw (← c.self.view_is, ← c.self.invariant.links, c.entry.ensures.value) refl
