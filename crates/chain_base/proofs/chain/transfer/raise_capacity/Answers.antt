use Rattle.std.proofs.Common.{arith}
use Rattle.chain_base.proofs.Transferring.{capacity-raised}
use Rattle.chain_base.proofs.chain.transfer.raise_capacity.Goals as goal

pub returns : goal.returns
returns g c =
    let ok = c.reallocate_min_capacity.ensures.ok in
    record {
      ok = capacity-raised _ _ _ _ _ _ c.len.ensures.sound (omega (arith, c.if-n-capacity.false)) ok;
      beyond = c.reallocate_min_capacity.ensures.beyond;
      memory = c.reallocate_min_capacity.ensures.memory;
      err = c.reallocate_min_capacity.ensures.err;
    }
