use Rattle.arena_base.proofs.{Steps.read, Steps.read-occupied, Steps.taken, Steps.taken-sound, Words.refl, Words.arith, Words.sym, Words.◌∙◌, Slots.entry_in-slot_entry}
use Rattle.arena_base.proofs.arena.Arena.take_entry.Goals as goal

pub unwrap-entry-requires : goal.unwrap-entry-requires
unwrap-entry-requires g c =
    rw c.vacate.ensures.value (read-occupied g.P.Gen.BasePtrGen g.P.Inx.BasePtrInx c.self.inside _ c.self.view_is _ _ c.position_of_entry-position.ensures
    _ c.index_mut-slot.ensures.value c.requires)

pub invariant_of-self : goal.invariant_of-self
invariant_of-self g c = (
  taken-sound g.P.Gen.BasePtrGen g.P.Inx.BasePtrInx c.self.inside _ c.self.view_is _ _ c.position_of_entry-position.ensures
      _ c.vacate.ensures.after _ c.args.i refl c.push_reserved.ensures.items c.self.invariant.0 c.requires,
  omega (arith, c.self.invariant.1),
)

pub returns-clause-value : goal.returns-clause-value
returns-clause-value g c =
    read g.P.Gen.BasePtrGen g.P.Inx.BasePtrInx c.self.inside _ c.self.view_is _ _ c.position_of_entry-position.ensures
    _ c.index_mut-slot.ensures.value ∙ entry_in-slot_entry g.P.Gen.BasePtrGen.number _ _ (sym c.vacate.ensures.value ∙ c.unwrap-entry.ensures)

pub returns-clause-after : goal.returns-clause-after
returns-clause-after g c =
    taken g.P.Gen.BasePtrGen g.P.Inx.BasePtrInx c.self.inside _ c.self.view_is _ _ c.position_of_entry-position.ensures
    _ c.vacate.ensures.after _ c.args.i refl c.push_reserved.ensures.items
