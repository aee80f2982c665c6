use Rattle.triple_ord.proofs.{Bare.contains-under, Words.◌∙◌}
use Rattle.triple_ord.proofs.arena.SimpleOrdArena.contains.Goals as goal

pub returns : goal.returns
returns g c = record { value = c.contains.ensures ∙ contains-under _ _ c.chain.ensures.value _; sound = c.chain.ensures.sound }
