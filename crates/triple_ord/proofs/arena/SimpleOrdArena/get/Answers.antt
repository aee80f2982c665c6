use Rattle.triple_ord.proofs.{Bare.item_of-under, Words.refl}
use Rattle.triple_ord.proofs.arena.SimpleOrdArena.get.Goals as goal

pub returns-in_err-node : goal.returns-in_err-node
returns-in_err-node g c = record { value = rw (c.from_residual.ensures, item_of-under _ _ c.chain.ensures.value _, ← c.in_err-node.ensures) refl; sound = c.chain.ensures.sound }

pub returns : goal.returns
returns g c = record { value = rw (item_of-under _ _ c.chain.ensures.value _, ← c.in_ok-node.ensures) refl; sound = c.chain.ensures.sound }
