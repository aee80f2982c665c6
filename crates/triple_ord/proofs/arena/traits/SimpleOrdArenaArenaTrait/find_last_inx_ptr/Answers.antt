use Rattle.triple_ord.proofs.{Content.last-found, Content.none-found, Words.IfSome_then}
use Rattle.triple_ord.proofs.arena.traits.SimpleOrdArenaArenaTrait.find_last_inx_ptr.Goals as goal

pub returns-clause-last : goal.returns-clause-last
returns-clause-last g c = IfSome_then _ c.find_last_inx_ptr.ensures.last (λ p. last-found _ _ c.args.self.now c.find_last_inx_ptr.ensures.empty.sound _ _)

pub returns-clause-empty : goal.returns-clause-empty
returns-clause-empty g c = none-found _ _ c.args.self.now c.find_last_inx_ptr.ensures.empty.sound _ c.find_last_inx_ptr.ensures.empty.value
