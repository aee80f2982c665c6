use Rattle.arena_base.proofs.Words.{◌≤◌, length, arith, sym, ap, ◌∙◌, same_Some, on_ok_weaker, option_map, common_steps, Vacant}
use Rattle.arena_base.proofs.{Steps.capacity-is, Steps.length-padded, Steps.relisted-fresh, Clones.clone-whole, Clones.clone-refused, Clones.clone-sound}
use Rattle.arena_base.proofs.arena.Arena.take_over.Goals as goal

pub invariant_of-self : goal.invariant_of-self
invariant_of-self g c =
    let s = c.self.inside in let granted = c.clone_slots-granted in let copies = granted.new.slots in let next = c.fill_up.new.slots in
    let capacity = capacity-is g.P.Gen.BasePtrGen g.P.Inx.BasePtrInx s _ c.self.view_is in
    let within : length copies.items ≤ length s.slots.items = omega (arith, copies.ok.0, capacity) in
    let all = c.fill_up.ensures.vacant in let room = rw c.requires.greatest at c.requires.room in
    let named = same_Some _ _ (ap (option_map g.P.Gen.BasePtrGen.number) (sym c.unwrap-self-inside.ensures) ∙ c.singular_generation.ensures) in
    let padded = rw (copies.ok.0, c.len-capacity.ensures, s.slots.ok.0) at c.fill_up.ensures.items in (
      clone-sound g.P.BasePtr.numbers g.P.Gen.BasePtrGen g.P.Inx.BasePtrInx g.M.CloneEntry.step s copies.items next.items _ _ all c.args.self.now c.self.view_is
          _ named room within padded c.args.map.now granted.new.map
          c.self.invariant.0 c.requires.source granted.result granted.ensures.made.ok granted.ensures.none_left,
      omega (arith, next.ok.0, s.slots.ok.0, length-padded _ copies.items next.items Vacant padded within, c.self.invariant.1),
    )

pub returns : goal.returns
returns g c =
    let s = c.self.inside in let granted = c.clone_slots-granted in let copies = granted.new.slots in
    let next = c.fill_up.new.slots.items in let room = rw c.requires.greatest at c.requires.room in let all = c.fill_up.ensures.vacant in
    let named = same_Some _ _ (ap (option_map g.P.Gen.BasePtrGen.number) (sym c.unwrap-self-inside.ensures) ∙ c.singular_generation.ensures) in
    let padded = rw (copies.ok.0, c.len-capacity.ensures, s.slots.ok.0) at c.fill_up.ensures.items in
    let within : length copies.items ≤ length s.slots.items = omega (arith, copies.ok.0, capacity-is g.P.Gen.BasePtrGen g.P.Inx.BasePtrInx s _ c.self.view_is) in
    record {
      made = record {
        callable = granted.ensures.made.callable;
        ok =
            on_ok_weaker granted.result (clone-whole g.P.BasePtr.numbers g.P.Gen.BasePtrGen g.P.Inx.BasePtrInx g.M.CloneEntry.step s copies.items next
            _ _ all c.args.self.now c.self.view_is _ named room within padded c.args.map.now granted.new.map) granted.ensures.made.ok;
        refused =
            clone-refused g.P.BasePtr.numbers g.P.Gen.BasePtrGen g.P.Inx.BasePtrInx g.M.CloneEntry.step s copies.items next _ _ all c.args.self.now c.self.view_is
            _ named room within padded c.args.map.now granted.new.map granted.result granted.ensures.made.refused granted.ensures.none_left;
      };
      fresh = relisted-fresh g.P.Gen.BasePtrGen g.P.Inx.BasePtrInx next _ c.unwrap-self-inside.result s.maximum all;
    }

pub clone_slots-granted-requires-clause-can : goal.clone_slots-granted-requires-clause-can
clone_slots-granted-requires-clause-can g c = record { callable = c.requires.callable; source = c.requires.source; greatest = c.requires.greatest; room = grind (arith, common_steps) }
