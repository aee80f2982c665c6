use Rattle.std.proofs.{Common.arith, lemmas.Grind.common_steps}
use Rattle.chain_base.proofs.chain.ChainArena.get_inx_link_no_gen.Goals as goal

pub returns : goal.returns
returns g c = grind (arith, common_steps)
