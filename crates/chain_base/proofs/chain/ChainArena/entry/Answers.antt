use Rattle.std.proofs.Common.{ap}
use Rattle.chain_base.proofs.Ends.{occupied-laid_out, entry_at-laid_out}
use Rattle.chain_base.proofs.chain.ChainArena.entry.Goals as goal

pub entry-pair-requires : goal.entry-pair-requires
entry-pair-requires g c = let held = rw (← c.self.view_is) at c.requires in occupied-laid_out c.self.inside.arena _ _ c.self.invariant _ held

pub returns : goal.returns
returns g c = rw (← c.self.view_is, entry_at-laid_out c.self.inside.arena _ _ c.self.invariant, c.entry-pair.ensures.value) (cc (ap (λ l. l.item) c.link.view_is))
