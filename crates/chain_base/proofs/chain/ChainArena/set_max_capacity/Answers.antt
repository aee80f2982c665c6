use Rattle.std.proofs.Common.{Some}
use Rattle.chain_base.proofs.Sound.{slots-kept}
use Rattle.chain_base.proofs.chain.ChainArena.set_max_capacity.Goals as goal

pub invariant_of-self : goal.invariant_of-self
invariant_of-self g c =
    rw (slots-kept c.set_max_capacity.result c.self.inside.arena c.set_max_capacity.new.self (Some c.args.n) c.set_max_capacity.ensures.ok c.set_max_capacity.ensures.err) c.self.invariant
