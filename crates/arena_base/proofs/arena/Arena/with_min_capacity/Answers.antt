use Rattle.arena_base.proofs.{Steps.length-padded, Steps.resized-cons, Steps.relisted, Steps.relisted-sound, Steps.entries-made, Words.None, Words.[], Words.refl, Words.arith, Words.◌∙◌, Words.none-some, Words.Vacant, Words.rules}
use Rattle.arena_base.proofs.arena.Arena.with_min_capacity.Goals as goal

pub invariant_of-result : goal.invariant_of-result
invariant_of-result g c =
    let next = c.fill_up.new.slots in let two = c.two-generation.ensures in
    let is = rw (c.in_ok-slots.slots.ok.0, c.in_ok-slots.ensures.items) at c.fill_up.ensures.items in
    let all = c.fill_up.ensures.vacant in (
      relisted-sound g.P.Gen.BasePtrGen g.P.Inx.BasePtrInx next.items _ c.two-generation.result None all c.args.n []
          (entries-made g.P.Gen.BasePtrGen.number c.args.n next.items is) (omega arith) two.lawful (λ k e there. absurd (none-some e there)),
      omega (arith, next.ok.0, length-padded c.args.n [] next.items Vacant is (omega arith), c.in_ok-vacant.ensures.capacity),
    )

pub returns : goal.returns
returns g c =
    let is = rw (c.in_ok-slots.slots.ok.0, c.in_ok-slots.ensures.items) at c.fill_up.ensures.items in let all = c.fill_up.ensures.vacant in
    record {
      ok = relisted g.P.Gen.BasePtrGen g.P.Inx.BasePtrInx c.fill_up.new.slots.items _ c.two-generation.result None all
          ∙ rw (entries-made g.P.Gen.BasePtrGen.number c.args.n c.fill_up.new.slots.items is, c.two-generation.ensures.value, resized-cons) refl;
      beyond = search rules;
      none = search rules;
    }
