use Rattle.std.proofs.Common.{◌∙◌}
use Rattle.chain_base.proofs.Going.{gives-from_link, pointers_left-none}
use Rattle.chain_base.proofs.chain.ChainArena.step.Goals as goal

pub returns : goal.returns
returns g c = rw (c._from_raw.ensures, c.next.ensures.value, ← c.self.view_is)
    (gives-from_link _ _ _ c.in_ok-entry.entry.1.now c.self.invariant.distinct
    (c.in_ok-entry.ensures ∙ c.self.invariant.links _))

pub returns-in_err-entry : goal.returns-in_err-entry
returns-in_err-entry g c = rw (c.from_residual.ensures, ← c.self.view_is)
    (pointers_left-none _ (g.P.Inx.BasePtrInx.number c.args.i) (c.in_err-entry.ensures ∙ c.self.invariant.links _))
