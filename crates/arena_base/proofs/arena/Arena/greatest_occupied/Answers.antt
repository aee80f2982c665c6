use Rattle.arena_base.proofs.{Slots.greatest_occupied-last, Slots.greatest_occupied-none, Slots.unwrap_or-index_number, Words.refl, Words.sym, Words.ap, Words.◌∙◌, Words.unwrap_or}
use Rattle.arena_base.proofs.arena.Arena.greatest_occupied.Goals as goal

pub returns-in-Some-clause-value : goal.returns-in-Some-clause-value
returns-in-Some-clause-value g c =
    let number = c.unwrap_or.ensures ∙ (ap (λ o. unwrap_or o 0) c.try_into_usize.ensures ∙ unwrap_or-index_number _) in
    number ∙ (c.inx.ensures ∙ sym (greatest_occupied-last c.in-Some.ensures.last))

pub returns-in-None-clause-value : goal.returns-in-None-clause-value
returns-in-None-clause-value g c = sym (greatest_occupied-none c.args.self.now.slots (c.in-None.ensures.empty.0 refl))
