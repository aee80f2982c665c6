use Rattle.triple_ord.proofs.Descending.{height-fits}
use Rattle.triple_ord.proofs.probe.Probe.new.Goals as goal

pub invariant_of-result-clause-few : goal.invariant_of-result-clause-few
invariant_of-result-clause-few g c = height-fits _ c.len.ensures.sound _ _ c.len.ensures.list g.met.P.Inx.BasePtrInx.fits
