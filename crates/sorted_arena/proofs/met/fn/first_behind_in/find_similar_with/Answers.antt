use Rattle.std.proofs.Common.{◌∙◌, refl, sym}
use Rattle.sorted_arena.proofs.met.fn.first_behind_in.find_similar_with.Goals as goal

pub returns-then-is_le : goal.returns-then-is_le
returns-then-is_le g c = record { shown = c.k.result; shows = c.k.ensures; order = c.f.result; says = c.f.ensures; answer_is = rw (sym c.is_le.ensures ∙ c.if-is_le.true) refl }

pub returns-else-is_le : goal.returns-else-is_le
returns-else-is_le g c = record { shown = c.k.result; shows = c.k.ensures; order = c.f.result; says = c.f.ensures; answer_is = rw (sym c.is_le.ensures ∙ c.if-is_le.false) refl }
