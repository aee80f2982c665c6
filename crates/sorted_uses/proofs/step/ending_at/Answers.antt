use Rattle.std.proofs.Common.{rules}
use Rattle.sorted_uses.proofs.step.ending_at.Goals as goal

-- the closure compares as the deadline does
pub returns : goal.returns
returns c = (c.find_by.ensures.finds c.args.deadline (λ k answer says. search rules)).none
