use Rattle.triple_ord.proofs.{Bare.last_index-under, Bare.none_under, Words.IfSome_then}
use Rattle.triple_ord.proofs.arena.SimpleOrdArena.find_last_inx_ptr.Goals as goal

pub returns-clause-last : goal.returns-clause-last
returns-clause-last g c = IfSome_then _ c.find_last_inx_ptr.ensures.last (λ p. last_index-under _ _ c.chain.ensures.value _ _)

pub returns-clause-empty : goal.returns-clause-empty
returns-clause-empty g c = record { value = none_under _ _ c.chain.ensures.value c.find_last_inx_ptr.result c.find_last_inx_ptr.ensures.empty; sound = c.chain.ensures.sound }
