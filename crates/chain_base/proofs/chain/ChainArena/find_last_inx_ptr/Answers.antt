use Rattle.std.proofs.lemmas.Option.{IfSome_then}
use Rattle.std.proofs.{Common.arith, lemmas.Grind.common_steps}
use Rattle.chain_base.proofs.Ends.{IsLastIndex-slot}
use Rattle.chain_base.proofs.chain.ChainArena.find_last_inx_ptr.Goals as goal

pub returns : goal.returns
returns g c = record {
  last = rw (← c.self.view_is) (IfSome_then _ c.find_last_inx_ptr.ensures.last (λ p. IsLastIndex-slot c.self.inside.arena _ _ _ c.self.invariant.links));
  empty = grind (arith, common_steps);
}
