use Rattle.std.proofs.Common.{◌∙◌, refl, sym}
use Rattle.sorted_arena.proofs.met.fn.first_from_in.find_similar_with.Goals as goal

pub returns-then-is_lt : goal.returns-then-is_lt
returns-then-is_lt g c = record { shown = c.k.result; shows = c.k.ensures; order = c.f.result; says = c.f.ensures; answer_is = rw (sym c.is_lt.ensures ∙ c.if-is_lt.true) refl }

pub returns-else-is_lt : goal.returns-else-is_lt
returns-else-is_lt g c = record { shown = c.k.result; shows = c.k.ensures; order = c.f.result; says = c.f.ensures; answer_is = rw (sym c.is_lt.ensures ∙ c.if-is_lt.false) refl }
