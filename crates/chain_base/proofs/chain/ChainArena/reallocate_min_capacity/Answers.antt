use Rattle.std.proofs.Common.{rules}
use Rattle.chain_base.proofs.Calls.{resized-laid, resized-chain}
use Rattle.chain_base.proofs.chain.ChainArena.reallocate_min_capacity.Goals as goal

pub invariant_of-self : goal.invariant_of-self
invariant_of-self g c = resized-laid c.self.inside.arena _ _ c.self.invariant c.reallocate_min_capacity.new.self _ _ c.reallocate_min_capacity.ensures.ok c.reallocate_min_capacity.ensures.err

pub returns : goal.returns
returns g c = record {
  ok = rw (← c.self.view_is) (resized-chain c.self.inside.arena _ _ c.self.invariant c.reallocate_min_capacity.new.self _ _ c.reallocate_min_capacity.ensures.ok);
  beyond = rw (← c.self.view_is) c.reallocate_min_capacity.ensures.beyond;
  memory = rw (← c.self.view_is) c.reallocate_min_capacity.ensures.memory;
  err = search rules;
}
