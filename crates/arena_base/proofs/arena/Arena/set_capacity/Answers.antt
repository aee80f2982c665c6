use Rattle.arena_base.proofs.Words.{◌≡◌, suc, ◌+◌, ◌++◌, length, replicate, ◌-◌, refl, arith, ap, ◌∙◌, add-one, length-take, Vacant, common_steps}
use Rattle.arena_base.proofs.{Steps.resized-cons, Steps.entries-resized, Steps.padded-vacant, Steps.resized-full, Steps.added-vacant_cut, Steps.relisted, Steps.relisted-sound, arena.Arena.set_capacity.Goals.After-add_vacant, arena.Arena.set_capacity.Given.Over}
use Rattle.arena_base.proofs.arena.Arena.set_capacity.Goals as goal

-- the slots with vacant ones added
padded : (g : Over) (c : After-add_vacant g)
    → c.add_vacant.new.slots.items ≡ c.self.inside.slots.items ++ replicate (c.args.n - length c.self.inside.slots.items) Vacant
padded g c = rw (c.reserve.new.slots.ok.0, c.reserve.ensures.slots) at c.add_vacant.ensures.items

pub cut_vacant-requires : goal.cut_vacant-requires
cut_vacant-requires g c =
    padded-vacant g.P.Gen.BasePtrGen.number c.args.n c.self.inside.slots.items _ (padded g (goal.at.cut_vacant-requires g c).After-add_vacant)
    (rw (← c.self.view_is) at c.requires.entries)

pub list_vacant-requires-clause-full : goal.list_vacant-requires-clause-full
list_vacant-requires-clause-full g c = λ k below.
    let is = padded g (goal.at.list_vacant-requires-clause-full g c).After-add_vacant in
    let there = rw (← c.self.view_is, add-one) at (c.full_positions-full.ensures (k + 1) (omega arith) (omega arith)) in
    rw (c.as_slice.ensures.value, c.cut_vacant.ensures.items)
    (resized-full g.P.Gen.BasePtrGen.number c.args.n c.self.inside.slots.items _ is (rw (← c.self.view_is) at c.requires.entries) k there)

pub invariant_of-self-2 : goal.invariant_of-self-2
invariant_of-self-2 g c =
    let all = rw c.as_slice.ensures.value at c.list_vacant.ensures.items in
    let is = padded g (goal.at.invariant_of-self-2 g c).After-add_vacant in (
      relisted-sound g.P.Gen.BasePtrGen g.P.Inx.BasePtrInx c.cut_vacant.new.slots.items _ c.self.inside.generation c.self.inside.maximum all
          c.args.n _ (entries-resized g.P.Gen.BasePtrGen.number c.args.n c.self.inside.slots.items _ is _ c.cut_vacant.ensures.items)
          (rw (← c.self.view_is) at c.requires.limit) c.self.invariant.0.generation_lawful (λ k. c.self.invariant.0.entries_lawful (suc k)),
      omega (arith, c.cut_vacant.new.slots.ok.0, ap length c.cut_vacant.ensures.items, length-take c.args.n c.add_vacant.new.slots.items, c.in_ok-reserve.ensures.room),
    )

pub returns-clause-ok : goal.returns-clause-ok
returns-clause-ok g c =
    let all = rw c.as_slice.ensures.value at c.list_vacant.ensures.items in
    let grown = padded g (goal.at.returns-clause-ok g c).After-add_vacant in
    let is = entries-resized g.P.Gen.BasePtrGen.number c.args.n c.self.inside.slots.items _ grown _ c.cut_vacant.ensures.items in
    relisted g.P.Gen.BasePtrGen g.P.Inx.BasePtrInx c.cut_vacant.new.slots.items _ c.self.inside.generation c.self.inside.maximum all
    ∙ rw (← c.self.view_is, is, resized-cons) refl

pub list_vacant-requires-clause-fresh : goal.list_vacant-requires-clause-fresh
list_vacant-requires-clause-fresh g c =
    let is = padded g (goal.at.list_vacant-requires-clause-fresh g c).After-add_vacant in
    rw (c.as_slice.ensures.value, c.cut_vacant.ensures.items, c.len-fresh.ensures, c.self.inside.slots.ok.0) (added-vacant_cut c.self.inside.slots.items _ _ is c.args.n)

pub list_vacant-requires-clause-room : goal.list_vacant-requires-clause-room
list_vacant-requires-clause-room g c = grind (arith, common_steps)

pub list_vacant-requires-clause-named : goal.list_vacant-requires-clause-named
list_vacant-requires-clause-named g c = grind (arith, common_steps)

pub returns-in_err-reserve-clause-memory : goal.returns-in_err-reserve-clause-memory
returns-in_err-reserve-clause-memory g c = grind (arith, common_steps)
