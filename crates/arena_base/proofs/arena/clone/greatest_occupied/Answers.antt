use Rattle.arena_base.proofs.{Slots.greatest_occupied-last, Slots.greatest_occupied-none, Slots.unwrap_or-index_number, Words.refl, Words.sym, Words.ap, Words.◌∙◌, Words.unwrap_or}
use Rattle.arena_base.proofs.arena.clone.greatest_occupied.Goals as goal

pub returns-in-Some : goal.returns-in-Some
returns-in-Some g c =
    let number = c.unwrap_or.ensures ∙ (ap (λ o. unwrap_or o 0) c.try_into_usize.ensures ∙ unwrap_or-index_number _) in
    record { value = number ∙ (c.inx.ensures ∙ sym (greatest_occupied-last c.in-Some.ensures.last)); lawful = c.capacity.ensures.lawful }

pub returns-in-None : goal.returns-in-None
returns-in-None g c = record { value = sym (greatest_occupied-none (g.S.ArenaTrait.content c.args.source.now).slots (c.in-None.ensures.empty.0 refl)); lawful = c.capacity.ensures.lawful }
