use Rattle.std.proofs.Common.{ap, refl}
use Rattle.chain_base.proofs.Ends.{entry_at-laid_out}
use Rattle.chain_base.proofs.chain.ChainArena.get_inx.Goals as goal

pub returns : goal.returns
returns g c = rw (← c.self.view_is, entry_at-laid_out c.self.inside.arena _ _ c.self.invariant, ← c.in_ok-entry.ensures) (cc (ap (λ l. l.item) c.link.view_is))

pub returns-in_err-entry : goal.returns-in_err-entry
returns-in_err-entry g c = rw (c.from_residual.ensures, ← c.self.view_is, entry_at-laid_out c.self.inside.arena _ _ c.self.invariant, ← c.in_err-entry.ensures) refl
