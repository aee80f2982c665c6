use Rattle.std.proofs.Common.{◌∙◌}
use Rattle.chain_base.proofs.{Ends.last-found, Ends.last-missing, CallerLemmas.last-empty}
use Rattle.chain_base.proofs.chain.ChainArena.last.Goals as goal

pub returns-clause-pointer : goal.returns-clause-pointer
returns-clause-pointer g c = c.ptr_at.ensures ∙ rw (← c.self.view_is) (last-found g.P.Inx.BasePtrInx.number c.self.inside.arena _ _ c.self.invariant _ c.in_ok-self.was)

pub returns-clause-empty : goal.returns-clause-empty
returns-clause-empty g c = last-empty g.P.BasePtr.numbers _ _ (returns-clause-pointer g c)

pub returns-in_err-self-clause-pointer : goal.returns-in_err-self-clause-pointer
returns-in_err-self-clause-pointer g c = rw (c.from_residual.ensures, ← c.self.view_is) (last-missing g.P.Inx.BasePtrInx.number c.self.inside.arena _ _ c.self.invariant c.in_err-self.was)

pub returns-in_err-self-clause-empty : goal.returns-in_err-self-clause-empty
returns-in_err-self-clause-empty g c = last-empty g.P.BasePtr.numbers _ _ (returns-in_err-self-clause-pointer g c)
