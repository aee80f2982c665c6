use Rattle.std.proofs.Common.{ap, refl}
use Rattle.chain_base.proofs.Ends.{item_of-laid_out}
use Rattle.chain_base.proofs.chain.ChainArena.get.Goals as goal

pub returns : goal.returns
returns g c = rw (← c.self.view_is, item_of-laid_out c.self.inside.arena _ _ c.self.invariant, ← c.in_ok-link.ensures) (cc (ap (λ l. l.item) c.link.view_is))

pub returns-in_err-link : goal.returns-in_err-link
returns-in_err-link g c = rw (c.from_residual.ensures, ← c.self.view_is, item_of-laid_out c.self.inside.arena _ _ c.self.invariant, ← c.in_err-link.ensures) refl
