use Rattle.arena_base.proofs.Words.{length, arith, get_or_past, Vacant, common_steps, ◌∙◌, length-map, entry_in}
use Rattle.arena_base.proofs.{Steps.relisted-fresh, Steps.relisted-sound, Compressing.compressed-lawful, Compressing.entries-compressed, Compressing.compressed-after}
use Rattle.arena_base.proofs.arena.Arena.compress_by.Goals as goal

pub invariant_of-self : goal.invariant_of-self
invariant_of-self g c =
    let s = c.self.inside in let p = c.move_down.ensures.items in let all = rw c.as_slice.ensures.value at c.list_vacant.ensures.items in
    let sound = c.self.invariant.0 in (
      relisted-sound g.P.Gen.BasePtrGen g.P.Inx.BasePtrInx c.move_down.new.slots.items _ s.generation s.maximum all (length s.slots.items) _
          (entries-compressed g.P.Gen.BasePtrGen.number (length s.slots.items) _ s.generation p.items p.after p.fits)
          (omega (arith, sound.within_limit, length-map s.slots.items (entry_in g.P.Gen.BasePtrGen.number)))
          sound.generation_lawful (compressed-lawful g.P.Gen.BasePtrGen.greatest _ p.items sound.generation_lawful),
      omega (arith, c.move_down.ensures.len, c.list_vacant.ensures.capacity, c.self.invariant.1),
    )

pub returns : goal.returns
returns g c =
    let all = rw c.as_slice.ensures.value at c.list_vacant.ensures.items in
    let after = compressed-after g.P.BasePtr.numbers g.P.Gen.BasePtrGen g.P.Inx.BasePtrInx _ c.self.inside c.move_down.new.slots.items c.list_vacant.new.vacant.items
    c.args.map c.args.self.now _ (c.self.view_is ∙ c.restart-overflow.ensures.after) c.move_down.ensures.items in
    record {
      after = after;
      overflow = c.restart-overflow.ensures.overflow;
      fresh = relisted-fresh g.P.Gen.BasePtrGen g.P.Inx.BasePtrInx c.move_down.new.slots.items _ c.self.inside.generation c.self.inside.maximum all;
    }

pub list_vacant-requires-clause-fresh : goal.list_vacant-requires-clause-fresh
list_vacant-requires-clause-fresh g c = λ k past.
    rw c.as_slice.ensures.value (get_or_past c.move_down.new.slots.items k Vacant (omega (arith, past, c.move_down.new.slots.ok.0, c.len-fresh.ensures)))

pub list_vacant-requires-clause-named : goal.list_vacant-requires-clause-named
list_vacant-requires-clause-named g c = grind (arith, common_steps)
