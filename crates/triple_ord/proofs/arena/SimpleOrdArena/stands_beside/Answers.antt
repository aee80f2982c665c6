use Rattle.triple_ord.proofs.{Words.sym, Words.◌∙◌, Rekeying.stays_before, Rekeying.stays_after}
use Rattle.triple_ord.proofs.arena.SimpleOrdArena.stands_beside.Goals as goal

pub returns-in-Lesser : goal.returns-in-Lesser
returns-in-Lesser g c = λ yes apart.
    let linked = sym (rw c.inx.ensures at c.in-Some.ensures.entry) in
    let named = sym c.prev.ensures.value ∙ c.is_named.ensures.0 yes in
    rw c.in-Lesser.is (stays_before c.args.self.now.list c.in-Some.ensures.sound.distinct _ _ _ _ linked apart named)

pub returns-in-Greater : goal.returns-in-Greater
returns-in-Greater g c = λ yes apart.
    let linked = sym (rw c.inx.ensures at c.in-Some.ensures.entry) in
    let named = sym c.next.ensures.value ∙ c.is_named-in-Greater.ensures.0 yes in
    rw c.in-Greater.is (stays_after c.args.self.now.list c.in-Some.ensures.sound.distinct _ _ _ _ linked apart named)
