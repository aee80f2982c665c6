use Rattle.std.proofs.lemmas.Option.{IfSome_then}
use Rattle.std.proofs.{Common.arith, lemmas.Grind.common_steps}
use Rattle.chain_base.proofs.Ends.{IsFirstIndex-slot}
use Rattle.chain_base.proofs.chain.ChainArena.find_first_inx_ptr.Goals as goal

pub returns : goal.returns
returns g c = record {
  first = rw (← c.self.view_is) (IfSome_then _ c.find_first_inx_ptr.ensures.first (λ p. IsFirstIndex-slot c.self.inside.arena _ _ _ c.self.invariant.links));
  empty = grind (arith, common_steps);
}
