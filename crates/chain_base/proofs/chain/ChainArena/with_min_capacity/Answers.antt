use Rattle.std.proofs.Common.{rules}
use Rattle.chain_base.proofs.Calls.{Lies-made}
use Rattle.chain_base.proofs.chain.ChainArena.with_min_capacity.Goals as goal

pub invariant_of-result : goal.invariant_of-result
invariant_of-result g c = (Lies-made g.P.Gen.BasePtrGen.greatest c.in_ok-with_min_capacity.field-0 c.args.n c.in_ok-with_min_capacity.ensures.ok).laid

pub returns : goal.returns
returns g c = record {
  ok = (Lies-made g.P.Gen.BasePtrGen.greatest c.in_ok-with_min_capacity.field-0 c.args.n c.in_ok-with_min_capacity.ensures.ok).chain;
  beyond = search rules;
  none = search rules;
}
