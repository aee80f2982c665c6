use Rattle.std.proofs.Common.{◌≡◌, Some, None, true, false, arith, ap, sym, subst, ◌∙◌}
use Rattle.std.specs.List.Sorted.{IsPartitionPoint}
use Rattle.leaf_list.specs.{Before.is_passed, Leaves.entries_of, Leaves.AreFilled, Leaves.AreOrdered, Place.position, House.Houses}
use Rattle.leaf_list.proofs.Placing.{none-last}
use Rattle.leaf_list.proofs.Entering.{last-has, push-point, put-ordered, put-entries, put-houses, goes-last, full-count, alone-is, added-is, added-ordered, added-filled, added-entries, added-houses}
use Rattle.leaf_list.proofs.list.LeafList.push.Goals as goal

pub add_first-requires-clause-empty : goal.add_first-requires-clause-empty
add_first-requires-clause-empty g c =
    none-last c.self.inside.store.leaves (sym c.in_default.ensures)

pub add_first-requires-clause-room : goal.add_first-requires-clause-room
add_first-requires-clause-room g c =
    let room = (rw (← c.self.view_is) at c.requires.room) in omega arith

pub invariant_of-self : goal.invariant_of-self
invariant_of-self g c =
    rw c.add_first.ensures (subst (AreOrdered g.K.Ord.cmp) (alone-is c.self.inside.store.leaves _ (none-last c.self.inside.store.leaves (sym c.in_default.ensures))) (added-ordered g.K.Ord.cmp g.met.K.Ord.total c.self.inside.store.leaves c.self.invariant (c.args.k, g.P.Inx.BasePtrInx.number c.args.name) c.self.inside.store.room (rw (← c.self.view_is) at c.requires.free) (rw (← c.self.view_is) at c.requires.last) (g.P.Inx.BasePtrInx.number c.add_first.result) (subst AreFilled (sym (alone-is c.self.inside.store.leaves _ (none-last c.self.inside.store.leaves (sym c.in_default.ensures)))) tt)))

pub returns-in_default-clause-entries : goal.returns-in_default-clause-entries
returns-in_default-clause-entries g c =
    rw (c.add_first.ensures, ← c.self.view_is) (ap entries_of (sym (alone-is c.self.inside.store.leaves _ (none-last c.self.inside.store.leaves (sym c.in_default.ensures)))) ∙ added-entries g.K.Ord.cmp g.met.K.Ord.total c.self.inside.store.leaves c.self.invariant (c.args.k, g.P.Inx.BasePtrInx.number c.args.name) c.self.inside.store.room (rw (← c.self.view_is) at c.requires.free) (rw (← c.self.view_is) at c.requires.last) (g.P.Inx.BasePtrInx.number c.add_first.result))

pub returns-in_default-clause-houses : goal.returns-in_default-clause-houses
returns-in_default-clause-houses g c =
    rw (c.add_first.ensures, ← c.self.view_is) (subst (λ ls. Houses c.self.inside.store (record { leaves = ls; room = c.self.inside.store.room }) (g.P.Inx.BasePtrInx.number c.args.name) (Some (g.P.Inx.BasePtrInx.number c.add_first.result)) None) (alone-is c.self.inside.store.leaves _ (none-last c.self.inside.store.leaves (sym c.in_default.ensures))) (added-houses g.K.Ord.cmp g.met.K.Ord.total c.self.inside.store.leaves c.self.invariant (c.args.k, g.P.Inx.BasePtrInx.number c.args.name) c.self.inside.store.room (rw (← c.self.view_is) at c.requires.free) (rw (← c.self.view_is) at c.requires.last) (g.P.Inx.BasePtrInx.number c.add_first.result)))

pub size-size-requires : goal.size-size-requires
size-size-requires g c =
    last-has c.self.inside.store.leaves (g.P.Inx.BasePtrInx.number c.in-Some.last) c.room.ensures.apart (sym c.in-Some.ensures)

pub put-requires-clause-leaf : goal.put-requires-clause-leaf
put-requires-clause-leaf g c =
    last-has c.self.inside.store.leaves (g.P.Inx.BasePtrInx.number c.in-Some.last) c.room.ensures.apart (sym c.in-Some.ensures)

pub put-requires-clause-within : goal.put-requires-clause-within
put-requires-clause-within g c =
    omega (arith, c.size-size.ensures.value)

pub put-requires-clause-room : goal.put-requires-clause-room
put-requires-clause-room g c =
    omega (arith, c.size-size.ensures.value)

pub invariant_of-self-then-size-lt-CAPACITY : goal.invariant_of-self-then-size-lt-CAPACITY
invariant_of-self-then-size-lt-CAPACITY g c =
    rw c.put.ensures (put-ordered g.K.Ord.cmp g.met.K.Ord.total c.self.inside.store.leaves c.self.invariant (g.P.Inx.BasePtrInx.number c.in-Some.last) c.size-size.result (c.args.k, g.P.Inx.BasePtrInx.number c.args.name) (last-has c.self.inside.store.leaves (g.P.Inx.BasePtrInx.number c.in-Some.last) c.room.ensures.apart (sym c.in-Some.ensures)) (omega (arith, c.size-size.ensures.value)) c.self.inside.store.room (rw (← c.self.view_is) at c.requires.free) (subst (λ i. IsPartitionPoint (λ e. is_passed true (g.K.Ord.cmp c.args.k e.0) ≡ true) (λ e. is_passed true (g.K.Ord.cmp c.args.k e.0) ≡ false) (entries_of c.self.inside.store.leaves) (position c.self.inside.store.leaves (Some ((g.P.Inx.BasePtrInx.number c.in-Some.last), i)))) (sym c.size-size.ensures.value) (push-point g.K.Ord.cmp g.met.K.Ord.total c.self.inside.store.leaves (g.P.Inx.BasePtrInx.number c.in-Some.last) (c.args.k, g.P.Inx.BasePtrInx.number c.args.name) c.room.ensures.apart (sym c.in-Some.ensures) (rw (← c.self.view_is) at c.requires.last))))

pub returns-then-size-lt-CAPACITY-clause-entries : goal.returns-then-size-lt-CAPACITY-clause-entries
returns-then-size-lt-CAPACITY-clause-entries g c =
    rw (c.put.ensures, ← c.self.view_is) (put-entries g.K.Ord.cmp g.met.K.Ord.total c.self.inside.store.leaves c.self.invariant (g.P.Inx.BasePtrInx.number c.in-Some.last) c.size-size.result (c.args.k, g.P.Inx.BasePtrInx.number c.args.name) (last-has c.self.inside.store.leaves (g.P.Inx.BasePtrInx.number c.in-Some.last) c.room.ensures.apart (sym c.in-Some.ensures)) (omega (arith, c.size-size.ensures.value)) c.self.inside.store.room (rw (← c.self.view_is) at c.requires.free) (subst (λ i. IsPartitionPoint (λ e. is_passed true (g.K.Ord.cmp c.args.k e.0) ≡ true) (λ e. is_passed true (g.K.Ord.cmp c.args.k e.0) ≡ false) (entries_of c.self.inside.store.leaves) (position c.self.inside.store.leaves (Some ((g.P.Inx.BasePtrInx.number c.in-Some.last), i)))) (sym c.size-size.ensures.value) (push-point g.K.Ord.cmp g.met.K.Ord.total c.self.inside.store.leaves (g.P.Inx.BasePtrInx.number c.in-Some.last) (c.args.k, g.P.Inx.BasePtrInx.number c.args.name) c.room.ensures.apart (sym c.in-Some.ensures) (rw (← c.self.view_is) at c.requires.last))) ∙ goes-last g.K.Ord.cmp g.met.K.Ord.total (entries_of c.self.inside.store.leaves) (c.args.k, g.P.Inx.BasePtrInx.number c.args.name) (rw (← c.self.view_is) at c.requires.last))

pub returns-then-size-lt-CAPACITY-clause-houses : goal.returns-then-size-lt-CAPACITY-clause-houses
returns-then-size-lt-CAPACITY-clause-houses g c =
    rw (c.put.ensures, ← c.self.view_is) (put-houses g.K.Ord.cmp g.met.K.Ord.total c.self.inside.store.leaves c.self.invariant (g.P.Inx.BasePtrInx.number c.in-Some.last) c.size-size.result (c.args.k, g.P.Inx.BasePtrInx.number c.args.name) (last-has c.self.inside.store.leaves (g.P.Inx.BasePtrInx.number c.in-Some.last) c.room.ensures.apart (sym c.in-Some.ensures)) (omega (arith, c.size-size.ensures.value)) c.self.inside.store.room (rw (← c.self.view_is) at c.requires.free) (subst (λ i. IsPartitionPoint (λ e. is_passed true (g.K.Ord.cmp c.args.k e.0) ≡ true) (λ e. is_passed true (g.K.Ord.cmp c.args.k e.0) ≡ false) (entries_of c.self.inside.store.leaves) (position c.self.inside.store.leaves (Some ((g.P.Inx.BasePtrInx.number c.in-Some.last), i)))) (sym c.size-size.ensures.value) (push-point g.K.Ord.cmp g.met.K.Ord.total c.self.inside.store.leaves (g.P.Inx.BasePtrInx.number c.in-Some.last) (c.args.k, g.P.Inx.BasePtrInx.number c.args.name) c.room.ensures.apart (sym c.in-Some.ensures) (rw (← c.self.view_is) at c.requires.last))))

pub add_after-requires-clause-leaf : goal.add_after-requires-clause-leaf
add_after-requires-clause-leaf g c =
    last-has c.self.inside.store.leaves (g.P.Inx.BasePtrInx.number c.in-Some.last) c.room.ensures.apart (sym c.in-Some.ensures)

pub add_after-requires-clause-room : goal.add_after-requires-clause-room
add_after-requires-clause-room g c =
    let room = (rw (← c.self.view_is) at c.requires.room) in let few = full-count c.self.inside.store.leaves (g.P.Inx.BasePtrInx.number c.in-Some.last) c.self.invariant.filled c.room.ensures.apart (omega (arith, c.size-size.ensures.value, c.size-size.ensures.few)) in omega arith

pub invariant_of-self-2 : goal.invariant_of-self-2
invariant_of-self-2 g c =
    rw (c.add_after.ensures.leaves, added-is g.K.Ord.cmp g.met.K.Ord.total c.self.inside.store.leaves c.self.invariant (c.args.k, g.P.Inx.BasePtrInx.number c.args.name) c.self.inside.store.room (rw (← c.self.view_is) at c.requires.free) (rw (← c.self.view_is) at c.requires.last) (g.P.Inx.BasePtrInx.number c.add_after.result) c.room.ensures.apart (g.P.Inx.BasePtrInx.number c.in-Some.last) (sym c.in-Some.ensures)) (added-ordered g.K.Ord.cmp g.met.K.Ord.total c.self.inside.store.leaves c.self.invariant (c.args.k, g.P.Inx.BasePtrInx.number c.args.name) c.self.inside.store.room (rw (← c.self.view_is) at c.requires.free) (rw (← c.self.view_is) at c.requires.last) (g.P.Inx.BasePtrInx.number c.add_after.result) (added-filled g.K.Ord.cmp g.met.K.Ord.total c.self.inside.store.leaves c.self.invariant (c.args.k, g.P.Inx.BasePtrInx.number c.args.name) c.self.inside.store.room (rw (← c.self.view_is) at c.requires.free) (rw (← c.self.view_is) at c.requires.last) (g.P.Inx.BasePtrInx.number c.add_after.result) c.room.ensures.apart (g.P.Inx.BasePtrInx.number c.in-Some.last) (sym c.in-Some.ensures) (omega (arith, c.size-size.ensures.value))))

pub returns-clause-entries : goal.returns-clause-entries
returns-clause-entries g c =
    rw (c.add_after.ensures.leaves, added-is g.K.Ord.cmp g.met.K.Ord.total c.self.inside.store.leaves c.self.invariant (c.args.k, g.P.Inx.BasePtrInx.number c.args.name) c.self.inside.store.room (rw (← c.self.view_is) at c.requires.free) (rw (← c.self.view_is) at c.requires.last) (g.P.Inx.BasePtrInx.number c.add_after.result) c.room.ensures.apart (g.P.Inx.BasePtrInx.number c.in-Some.last) (sym c.in-Some.ensures), ← c.self.view_is) (added-entries g.K.Ord.cmp g.met.K.Ord.total c.self.inside.store.leaves c.self.invariant (c.args.k, g.P.Inx.BasePtrInx.number c.args.name) c.self.inside.store.room (rw (← c.self.view_is) at c.requires.free) (rw (← c.self.view_is) at c.requires.last) (g.P.Inx.BasePtrInx.number c.add_after.result))

pub returns-clause-houses : goal.returns-clause-houses
returns-clause-houses g c =
    rw (c.add_after.ensures.leaves, added-is g.K.Ord.cmp g.met.K.Ord.total c.self.inside.store.leaves c.self.invariant (c.args.k, g.P.Inx.BasePtrInx.number c.args.name) c.self.inside.store.room (rw (← c.self.view_is) at c.requires.free) (rw (← c.self.view_is) at c.requires.last) (g.P.Inx.BasePtrInx.number c.add_after.result) c.room.ensures.apart (g.P.Inx.BasePtrInx.number c.in-Some.last) (sym c.in-Some.ensures), ← c.self.view_is) (added-houses g.K.Ord.cmp g.met.K.Ord.total c.self.inside.store.leaves c.self.invariant (c.args.k, g.P.Inx.BasePtrInx.number c.args.name) c.self.inside.store.room (rw (← c.self.view_is) at c.requires.free) (rw (← c.self.view_is) at c.requires.last) (g.P.Inx.BasePtrInx.number c.add_after.result))
