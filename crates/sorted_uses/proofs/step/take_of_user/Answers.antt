use Rattle.std.proofs.Common.{Result, Ok, Err, OnOk, rules}
use Rattle.std.proofs.lemmas.Fn.{filter_same}
use Rattle.sorted_uses.proofs.step.take_of_user.Goals as goal

each : {T E P Q : Type 0} (r : Result T E) → (P → Q) → OnOk r P → OnOk r Q
each (Ok t) f p = f p
each (Err e) f p = tt

pub returns-clause-taken : goal.returns-clause-taken
returns-clause-taken c = each c.extract_if.result (filter_same _ _ _ (λ e answer next told. search rules) _ _) (c.extract_if.ensures.extracts (search rules)).extracted
