use Rattle.arena_base.proofs.{Words.inl, Words.inr, Words.◌≡◌, Words.None, Words.get_or, Words.refl, Words.arith, Words.sym, Words.ap, Words.◌∙◌, Words.cases_lt, Words.get_or-take, Slots.counted_none}
use Rattle.arena_base.proofs.arena.Arena.find_last_inx_ptr.Goals as goal

pub returns : goal.returns
returns g c =
    let slots = c.args.self.now.slots in
    let first : get_or slots 0 None ≡ None = sym (get_or-take 1 slots 0 None (omega arith)) ∙ ap (λ ss. get_or ss 0 None) c.capacity-position.ensures.sound.begins in
    record {
      last = tt;
      empty = (λ h. counted_none slots (λ k. elim (cases_lt 0 k) [ inl above ↦ c.loop-position.invariant k (omega arith) | inr zero ↦ let same : k ≡ 0 = omega arith in rw same first ]), λ h. refl);
    }
