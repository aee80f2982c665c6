use Rattle.std.proofs.Common.{◌∙◌, refl, sym}
use Rattle.sorted_arena.proofs.Cutting.{not_less}
use Rattle.sorted_arena.proofs.met.behind_met.Goals as goal

pub returns-in_default : goal.returns-in_default
returns-in_default g c distinct =
    c.next_in.ensures distinct ∙ sym (rw (c.in_ok-p.was, not_less c.in_ok-p.order c.in_default.not-Less) refl)
