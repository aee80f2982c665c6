use Rattle.triple_ord.proofs.Stepping.{gives-rising, gives-falling, rest-missing}
use Rattle.triple_ord.proofs.arena.SimpleOrdArena.step.Goals as goal

pub returns-then-falling : goal.returns-then-falling
returns-then-falling g c = rw (c.if-falling.true, c._from_raw-p.ensures, c.prev.ensures.value)
    (gives-falling c.args.self.now (g.P.Inx.BasePtrInx.number c.args.i) c.in_ok-entry.ensures.sound.distinct _ _ c.in_ok-entry.ensures.value)

pub returns : goal.returns
returns g c = rw (c.if-falling.false, c._from_raw-p.ensures, c.next.ensures.value)
    (gives-rising c.args.self.now (g.P.Inx.BasePtrInx.number c.args.i) c.in_ok-entry.ensures.sound.distinct _ _ c.in_ok-entry.ensures.value)

pub returns-in_err-entry : goal.returns-in_err-entry
returns-in_err-entry g c = rw c.from_residual.ensures (rest-missing c.args.self.now _ c.in_err-entry.ensures.sound.distinct _ c.in_err-entry.ensures.value)
