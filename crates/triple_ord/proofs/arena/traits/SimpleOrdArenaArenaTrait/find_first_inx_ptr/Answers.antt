use Rattle.triple_ord.proofs.{Content.first-found, Content.none-found, Words.IfSome_then}
use Rattle.triple_ord.proofs.arena.traits.SimpleOrdArenaArenaTrait.find_first_inx_ptr.Goals as goal

pub returns-clause-first : goal.returns-clause-first
returns-clause-first g c = IfSome_then _ c.find_first_inx_ptr.ensures.first (λ p. first-found _ _ c.args.self.now c.find_first_inx_ptr.ensures.empty.sound _ _)

pub returns-clause-empty : goal.returns-clause-empty
returns-clause-empty g c = none-found _ _ c.args.self.now c.find_first_inx_ptr.ensures.empty.sound _ c.find_first_inx_ptr.ensures.empty.value
