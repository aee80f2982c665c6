use Rattle.arena_base.proofs.{arena.Arena.swap_inx.Given.Over, arena.Arena.swap_inx.Goals.After-position_of_entry-second, arena.Arena.swap_inx.Goals.After-renew-2, Words.◌≡◌, Words.◌<◌, Words.length, Words.arith, Words.vec_len}
use Rattle.arena_base.proofs.Steps.{capacity-is, slot-within, read-occupied, IsExchange, swapped-view, swapped-sound}
use Rattle.arena_base.proofs.arena.Arena.swap_inx.Goals as goal

pub generation-kept_first-requires : goal.generation-kept_first-requires
generation-kept_first-requires g c =
    read-occupied g.P.Gen.BasePtrGen g.P.Inx.BasePtrInx c.self.inside _ c.self.view_is _ _ c.position_of_entry-first.ensures
    _ c.index.ensures c.requires.first

pub generation-kept_second-requires : goal.generation-kept_second-requires
generation-kept_second-requires g c =
    read-occupied g.P.Gen.BasePtrGen g.P.Inx.BasePtrInx c.self.inside _ c.self.view_is _ _ c.position_of_entry-second.ensures
    _ c.index-2.ensures c.requires.second

-- both positions are within the slots
within : (g : Over) (c : After-position_of_entry-second g) → (c.position_of_entry-first.result < vec_len c.self.inside.slots)
    × (c.position_of_entry-second.result < vec_len c.self.inside.slots)
within g c = (
  slot-within g.P.Gen.BasePtrGen g.P.Inx.BasePtrInx c.self.inside _ c.self.view_is _ _ c.position_of_entry-first.ensures,
  slot-within g.P.Gen.BasePtrGen g.P.Inx.BasePtrInx c.self.inside _ c.self.view_is _ _ c.position_of_entry-second.ensures,
)

pub index-requires : goal.index-requires
index-requires g c = (within g c).0

pub index-requires-2 : goal.index-requires-2
index-requires-2 g c = (within g (goal.at.index-requires-2 g c).After-position_of_entry-second).1

pub swap-requires : goal.swap-requires
swap-requires g c =
    let at = within g (goal.at.swap-requires g c).After-position_of_entry-second in record { i_in_bounds = at.0; j_in_bounds = at.1 }

pub index_mut-slot-requires : goal.index_mut-slot-requires
index_mut-slot-requires g c = rw c.swap.ensures.len (within g (goal.at.index_mut-slot-requires g c).After-position_of_entry-second).0

pub index_mut-slot-requires-2 : goal.index_mut-slot-requires-2
index_mut-slot-requires-2 g c = rw c.swap.ensures.len (within g (goal.at.index_mut-slot-requires-2 g c).After-position_of_entry-second).1

abbrev Exchange : (g : Over) → After-renew-2 g → Type 0
Exchange g c =
    IsExchange c.self.inside.slots.items c.swap.new.self.items c.position_of_entry-first.result c.position_of_entry-second.result
    c.index.result.now c.index-2.result.now c.index_mut-slot.result.now c.index_mut-slot-2.result.now c.renew.new.self c.renew-2.new.self
    c.generation-kept_first.result c.generation-kept_second.result

exchange : (g : Over) (c : After-renew-2 g) → Exchange g c
exchange g c =
    let xs = c.self.inside.slots in let capacity = capacity-is g.P.Gen.BasePtrGen g.P.Inx.BasePtrInx c.self.inside _ c.self.view_is in
    let first : c.position_of_entry-first.result < length xs.items = omega (arith, capacity, c.position_of_entry-first.ensures.within) in
    let second : c.position_of_entry-second.result < length xs.items = omega (arith, capacity, c.position_of_entry-second.ensures.within) in
    let same : length c.swap.new.self.items ≡ length xs.items = omega (arith, c.swap.new.self.ok.0, xs.ok.0, c.swap.ensures.len) in
    let places = c.swap.ensures.by_index in
    let old = c.index_mut-slot.ensures in let older = c.index_mut-slot-2.ensures in let era = c.generation-kept_first in
    assumption (first, second, same, places, old, older, c.index, c.index-2, era, c.generation-kept_second, c.renew, c.renew-2)

pub invariant_of-self : goal.invariant_of-self
invariant_of-self g c = (
  swapped-sound g.P.Gen.BasePtrGen g.P.Inx.BasePtrInx c.self.inside (exchange g (goal.at.invariant_of-self g c).After-renew-2) c.self.invariant.0,
  omega (arith, c.self.invariant.1, c.swap.ensures.len),
)

pub returns-clause-after : goal.returns-clause-after
returns-clause-after g c =
    swapped-view g.P.Gen.BasePtrGen g.P.Inx.BasePtrInx c.self.inside (exchange g (goal.at.returns-clause-after g c).After-renew-2) _ c.self.view_is _ _
    c.position_of_entry-first.ensures.number c.position_of_entry-second.ensures.number
