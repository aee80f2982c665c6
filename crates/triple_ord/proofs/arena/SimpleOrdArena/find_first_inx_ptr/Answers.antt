use Rattle.triple_ord.proofs.{Bare.first_index-under, Bare.none_under, Words.IfSome_then}
use Rattle.triple_ord.proofs.arena.SimpleOrdArena.find_first_inx_ptr.Goals as goal

pub returns-clause-first : goal.returns-clause-first
returns-clause-first g c = IfSome_then _ c.find_first_inx_ptr.ensures.first (λ p. first_index-under _ _ c.chain.ensures.value _ _)

pub returns-clause-empty : goal.returns-clause-empty
returns-clause-empty g c = record { value = none_under _ _ c.chain.ensures.value c.find_first_inx_ptr.result c.find_first_inx_ptr.ensures.empty; sound = c.chain.ensures.sound }
