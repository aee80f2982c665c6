use Rattle.std.proofs.{Common.arith, lemmas.Grind.common_steps}
use Rattle.chain_base.proofs.{Ends.contains-laid_out, Calls.renewed-or_kept}
use Rattle.chain_base.proofs.chain.ChainArena.invalidate.Goals as goal

pub invariant_of-self : goal.invariant_of-self
invariant_of-self g c = (renewed-or_kept c.self.inside.arena _ _ c.self.invariant _ c.invalidate.new.self _ _ c.invalidate.ensures.renewed c.invalidate.ensures.invalid).0

pub returns : goal.returns
returns g c =
    let told = c.invalidate.ensures in
    record {
      valid = rw (← c.self.view_is, told.valid) (contains-laid_out c.self.inside.arena _ _ c.self.invariant _);
      index = told.index;
      generation = rw (← c.self.view_is) told.generation;
      overflow = rw (← c.self.view_is) told.overflow;
      renewed = rw (← c.self.view_is) (renewed-or_kept c.self.inside.arena _ _ c.self.invariant _ c.invalidate.new.self _ _ told.renewed told.invalid).1;
      invalid = grind (arith, common_steps);
    }
