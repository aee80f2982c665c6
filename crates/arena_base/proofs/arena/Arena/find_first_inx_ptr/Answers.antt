use Rattle.arena_base.proofs.{Words.inl, Words.inr, Words.None, Words.length, Words.refl, Words.arith, Words.cases_lt, Words.get_or_past, Slots.counted_none}
use Rattle.arena_base.proofs.arena.Arena.find_first_inx_ptr.Goals as goal

pub returns : goal.returns
returns g c =
    let slots = c.args.self.now.slots in
    record {
      first = tt;
      empty = (λ h. counted_none slots (λ k. elim (cases_lt k (length slots)) [ inl within ↦ c.loop-position.invariant k (omega arith) | inr past ↦ get_or_past slots k None past ]), λ h. refl);
    }
