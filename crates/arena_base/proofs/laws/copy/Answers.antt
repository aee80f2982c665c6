use Rattle.arena_base.proofs.{Words.rules, Words.on_ok_weaker, Clones.copy-found}
use Rattle.arena_base.proofs.laws.copy.Goals as goal

pub returns-clause-found : goal.returns-clause-found
returns-clause-found g c =
    on_ok_weaker _ (copy-found g.P.BasePtr.numbers _ (λ f p u x k called. search rules) _ _ _ _) c.clone_from_with.ensures.clones.ok
