use Rattle.std.proofs.Common.{sym, ◌∙◌}
use Rattle.std.proofs.lemmas.List.{length-map}
use Rattle.std.proofs.lemmas.List.Sorted.{length_permutation}
use Rattle.sorted_serde.proofs.read.arena_of.Goals as goal

pub returns-in-Ok-clause-capacity : goal.returns-in-Ok-clause-capacity
returns-in-Ok-clause-capacity g c = c.in-Ok.ensures.capacity ∙ sym (length_permutation _ _ c.in-Ok.ensures.permutation) ∙ length-map _ _
