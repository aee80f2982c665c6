use Rattle.arena_base.proofs.{Words.ℕ, Words.arith, Words.ap, Words.sym, Words.◌∙◌, Slots.entry-none, Steps.insertion, Steps.capacity-is, Steps.read, Steps.top-vacant, Steps.put-sound}
use Rattle.arena_base.proofs.arena.Arena.insert_next.Goals as goal

pub position_at-requires : goal.position_at-requires
position_at-requires g c =
    (top-vacant g.P.Gen.BasePtrGen g.P.Inx.BasePtrInx c.self.inside _ c.self.view_is c.self.invariant.0 _ _ c.take_last-i.ensures.items).above

pub index_mut-slot-requires : goal.index_mut-slot-requires
index_mut-slot-requires g c =
    let top = top-vacant g.P.Gen.BasePtrGen g.P.Inx.BasePtrInx c.self.inside _ c.self.view_is c.self.invariant.0 _ _ c.take_last-i.ensures.items in
    omega (arith, top.within, capacity-is g.P.Gen.BasePtrGen g.P.Inx.BasePtrInx c.self.inside _ c.self.view_is, c.self.inside.slots.ok.0)

-- the slot on top of the stack is vacant
pub fill-requires : goal.fill-requires
fill-requires g c =
    let top = top-vacant g.P.Gen.BasePtrGen g.P.Inx.BasePtrInx c.self.inside _ c.self.view_is c.self.invariant.0 _ _ c.take_last-i.ensures.items in
    let was = read g.P.Gen.BasePtrGen g.P.Inx.BasePtrInx c.self.inside _ c.self.view_is _ _
    (record { number = c.position_at.ensures; within = omega (arith, top.within, c.position_at.ensures) }) _ c.index_mut-slot.ensures.value in
    entry-none g.P.Gen.BasePtrGen.number _ (sym was ∙ top.free)

pub invariant_of-self : goal.invariant_of-self
invariant_of-self g c = (
  rw c.fill.ensures (put-sound g.P.Gen.BasePtrGen g.P.Inx.BasePtrInx c.self.inside _ c.self.view_is c.self.invariant.0 _ _ c.take_last-i.ensures.items
      _ c.position_at.ensures c.args.item),
  omega (arith, c.self.invariant.1),
)

pub returns-clause-inserted : goal.returns-clause-inserted
returns-clause-inserted g c =
    rw c.fill.ensures (insertion g.P.Gen.BasePtrGen g.P.Inx.BasePtrInx c.self.inside _ c.self.view_is c.self.invariant.0 _ _ c.take_last-i.ensures.items
    _ c.position_at.ensures c.args.item _ _ (ap (λ (n : ℕ × ℕ). n.0) c._from_raw.ensures) (ap (λ (n : ℕ × ℕ). n.1) c._from_raw.ensures))

pub returns-clause-sound : goal.returns-clause-sound
returns-clause-sound g c =
    rw c.fill.ensures (put-sound g.P.Gen.BasePtrGen g.P.Inx.BasePtrInx c.self.inside _ c.self.view_is c.self.invariant.0 _ _ c.take_last-i.ensures.items
    _ c.position_at.ensures c.args.item)
