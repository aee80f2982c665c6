use Rattle.arena_base.proofs.Words.{arith, common_steps}
use Rattle.arena_base.proofs.arena.Arena.first_from.Goals as goal

pub loop-position-preserved : goal.loop-position-preserved
loop-position-preserved g c = grind (arith, common_steps)

pub returns-in-Some-clause-finds : goal.returns-in-Some-clause-finds
returns-in-Some-clause-finds g c = record { pointers = grind (arith, common_steps); there = grind (arith, common_steps); next = grind (arith, common_steps) }

pub returns-in-Some-clause-entries : goal.returns-in-Some-clause-entries
returns-in-Some-clause-entries g c = grind (arith, common_steps)

pub returns-clause-finds : goal.returns-clause-finds
returns-clause-finds g c = record { pointers = grind (arith, common_steps); there = tt; next = tt }

pub returns-clause-entries : goal.returns-clause-entries
returns-clause-entries g c = grind (arith, common_steps)
