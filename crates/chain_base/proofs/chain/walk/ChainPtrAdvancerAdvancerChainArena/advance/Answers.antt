use Rattle.std.proofs.{Common.arith, lemmas.Grind.common_steps}
use Rattle.chain_base.proofs.chain.walk.ChainPtrAdvancerAdvancerChainArena.advance.Goals as goal

pub returns-clause-step : goal.returns-clause-step
returns-clause-step g c = grind (arith, common_steps)
