use Rattle.std.proofs.{Common.ap, Common.inl, Common.inr, Common.option_map}
use Rattle.chain_base.specs.Chain.{Chain}
use Rattle.chain_base.proofs.{Room.after-insertion, Calls.beside-inserted, Calls.Inserts-linked}
use Rattle.chain_base.proofs.chain.ChainArena.insert_reserved.Goals as goal

pub relink-requires-clause-left : goal.relink-requires-clause-left
relink-requires-clause-left g c = λ x is.
    let at = rw (← c.self.view_is) at c.neighbours.ensures in
    beside-inserted c.self.inside.arena _ _ c.self.invariant _ _ _ _ c.insert_reserved-p.ensures.inserted _ _ _ at _ (inl (ap (option_map g.P.Inx.BasePtrInx.number) is))

pub relink-requires-clause-right : goal.relink-requires-clause-right
relink-requires-clause-right g c = λ x is.
    let at = rw (← c.self.view_is) at c.neighbours.ensures in
    beside-inserted c.self.inside.arena _ _ c.self.invariant _ _ _ _ c.insert_reserved-p.ensures.inserted _ _ _ at _ (inr (ap (option_map g.P.Inx.BasePtrInx.number) is))

pub invariant_of-self : goal.invariant_of-self
invariant_of-self g c =
    let at = rw (← c.self.view_is) at c.neighbours.ensures in
    let ends = rw c.inx.ensures at c.relink.ensures in
    let new = c.new.ensures in
    let inserts = Inserts-linked c.self.inside.arena _ _ c.self.invariant _ _ _ _ c.insert_reserved-p.ensures.inserted _ _ _ at _ _ c.insert_reserved-p.ensures.sound
    _ new.item new.prev new.next c.relink.new.arena _ _ ends.arena ends.first ends.last in
    inserts.laid

pub returns : goal.returns
returns g c =
    let at = rw (← c.self.view_is) at c.neighbours.ensures in
    let ends = rw c.inx.ensures at c.relink.ensures in
    let new = c.new.ensures in
    let inserts = Inserts-linked c.self.inside.arena _ _ c.self.invariant _ _ _ _ c.insert_reserved-p.ensures.inserted _ _ _ at _ _ c.insert_reserved-p.ensures.sound
    _ new.item new.prev new.next c.relink.new.arena _ _ ends.arena ends.first ends.last in
    record {
      inserted = rw (← c.self.view_is) inserts.insertion;
      capacity = rw (← c.self.view_is) (ap (λ (d : Chain _). d.capacity) (after-insertion _ _ _ _ _ _ inserts.insertion).1);
    }

pub neighbours-requires : goal.neighbours-requires
neighbours-requires g c = c.requires.place
