use Rattle.arena_base.proofs.Words.{◌≡◌, [], length, ◌-◌, refl, arith, ◌∙◌, length-map, none-some, map-replicate, Vacant, entry_in}
use Rattle.arena_base.proofs.{Slots.entries, Steps.length-padded, Steps.relisted, Steps.relisted-sound, Steps.entries-made}
use Rattle.arena_base.proofs.arena.Arena.vacate.Goals as goal

pub invariant_of-self : goal.invariant_of-self
invariant_of-self g c =
    let s = c.self.inside in let next = c.fill_up.new.slots in
    let is = rw (c.clear.ensures.items, c.clear.ensures.len) at c.fill_up.ensures.items in let all = c.fill_up.ensures.vacant in
    let sound = c.self.invariant.0 in (
      relisted-sound g.P.Gen.BasePtrGen g.P.Inx.BasePtrInx next.items _ s.generation s.maximum all c.len-n.result []
          (entries-made g.P.Gen.BasePtrGen.number c.len-n.result next.items is)
          (omega (arith, sound.within_limit, s.slots.ok.0, length-map s.slots.items (entry_in g.P.Gen.BasePtrGen.number)))
          sound.generation_lawful (λ k e there. absurd (none-some e there)),
      omega (arith, next.ok.0, s.slots.ok.0, length-padded c.len-n.result [] next.items Vacant is (omega arith), c.self.invariant.1),
    )

pub returns : goal.returns
returns g c =
    let s = c.self.inside in let is = rw (c.clear.ensures.items, c.clear.ensures.len) at c.fill_up.ensures.items in
    let all = c.fill_up.ensures.vacant in
    let same : c.len-n.result - 0 ≡ length (entries g.P.Gen.BasePtrGen.number s.slots.items) =
    omega (arith, c.len-n.ensures, s.slots.ok.0, length-map s.slots.items (entry_in g.P.Gen.BasePtrGen.number)) in
    relisted g.P.Gen.BasePtrGen g.P.Inx.BasePtrInx c.fill_up.new.slots.items _ s.generation s.maximum all
    ∙ rw (← c.self.view_is, is, map-replicate (entry_in g.P.Gen.BasePtrGen.number) _ Vacant, same) refl
