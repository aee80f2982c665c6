use Rattle.triple_ord.proofs.{Bare.entry_at-under, Words.refl}
use Rattle.triple_ord.proofs.arena.SimpleOrdArena.get_inx.Goals as goal

pub returns-in_err-entry : goal.returns-in_err-entry
returns-in_err-entry g c = record { value = rw (c.from_residual.ensures, entry_at-under _ _ c.chain.ensures.value _, ← c.in_err-entry.ensures) refl; sound = c.chain.ensures.sound }

pub returns : goal.returns
returns g c = record { value = rw (entry_at-under _ _ c.chain.ensures.value _, ← c.in_ok-entry.ensures) refl; sound = c.chain.ensures.sound }
