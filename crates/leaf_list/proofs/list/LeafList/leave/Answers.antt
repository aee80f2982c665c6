use Rattle.std.proofs.Common.{◌≡◌, ◌+◌, Some, None, slice_get, arith, ap, sym, subst, ◌∙◌}
use Rattle.leaf_list.specs.{House.Houses, Parts.entries_in}
use Rattle.leaf_list.proofs.Cutting.{entry_at-entries}
use Rattle.leaf_list.proofs.Placing.{has-leaf}
use Rattle.leaf_list.proofs.Leaving.{rest-size, short-own, left-closed, left-shrunk, left-last, next-of, next-filled, left-refilled}
use Rattle.leaf_list.proofs.list.LeafList.leave.Goals as goal

pub size-size-requires : goal.size-size-requires
size-size-requires g c =
    let h = has-leaf c.self.inside.store.leaves (g.P.Inx.BasePtrInx.number c.args.p.leaf) c.args.p.at (rw (← c.self.view_is) at c.requires) in omega arith

pub invariant_of-self : goal.invariant_of-self
invariant_of-self g c =
    let h = has-leaf c.self.inside.store.leaves (g.P.Inx.BasePtrInx.number c.args.p.leaf) c.args.p.at (rw (← c.self.view_is) at c.requires) in
    let zeroth : c.args.p.at ≡ 0 = omega arith in
    let taken : slice_get (entries_in c.self.inside.store.leaves (g.P.Inx.BasePtrInx.number c.args.p.leaf)) c.args.p.at ≡ Some (c.close.result.0, g.P.Inx.BasePtrInx.number c.close.result.1) = ap (slice_get (entries_in c.self.inside.store.leaves (g.P.Inx.BasePtrInx.number c.args.p.leaf))) zeroth ∙ c.close.ensures.entry in
    let left = left-closed g.K.Ord.cmp c.self.inside.store.leaves c.self.invariant c.room.ensures.apart (g.P.Inx.BasePtrInx.number c.args.p.leaf) c.args.p.at (c.close.result.0, g.P.Inx.BasePtrInx.number c.close.result.1) taken c.self.inside.store.room (omega arith) in
    rw c.close.ensures.leaves left.order

pub returns-then-size-eq1-clause-entry : goal.returns-then-size-eq1-clause-entry
returns-then-size-eq1-clause-entry g c =
    let h = has-leaf c.self.inside.store.leaves (g.P.Inx.BasePtrInx.number c.args.p.leaf) c.args.p.at (rw (← c.self.view_is) at c.requires) in
    let zeroth : c.args.p.at ≡ 0 = omega arith in
    rw (← c.self.view_is) (entry_at-entries c.self.inside.store.leaves (g.P.Inx.BasePtrInx.number c.args.p.leaf) c.args.p.at ∙ ap (slice_get (entries_in c.self.inside.store.leaves (g.P.Inx.BasePtrInx.number c.args.p.leaf))) zeroth ∙ c.close.ensures.entry)

pub returns-then-size-eq1-clause-entries : goal.returns-then-size-eq1-clause-entries
returns-then-size-eq1-clause-entries g c =
    let h = has-leaf c.self.inside.store.leaves (g.P.Inx.BasePtrInx.number c.args.p.leaf) c.args.p.at (rw (← c.self.view_is) at c.requires) in
    let zeroth : c.args.p.at ≡ 0 = omega arith in
    let taken : slice_get (entries_in c.self.inside.store.leaves (g.P.Inx.BasePtrInx.number c.args.p.leaf)) c.args.p.at ≡ Some (c.close.result.0, g.P.Inx.BasePtrInx.number c.close.result.1) = ap (slice_get (entries_in c.self.inside.store.leaves (g.P.Inx.BasePtrInx.number c.args.p.leaf))) zeroth ∙ c.close.ensures.entry in
    let left = left-closed g.K.Ord.cmp c.self.inside.store.leaves c.self.invariant c.room.ensures.apart (g.P.Inx.BasePtrInx.number c.args.p.leaf) c.args.p.at (c.close.result.0, g.P.Inx.BasePtrInx.number c.close.result.1) taken c.self.inside.store.room (omega arith) in
    rw (c.close.ensures.leaves, ← c.self.view_is) left.entries

pub returns-then-size-eq1-clause-houses : goal.returns-then-size-eq1-clause-houses
returns-then-size-eq1-clause-houses g c =
    let h = has-leaf c.self.inside.store.leaves (g.P.Inx.BasePtrInx.number c.args.p.leaf) c.args.p.at (rw (← c.self.view_is) at c.requires) in
    let zeroth : c.args.p.at ≡ 0 = omega arith in
    let taken : slice_get (entries_in c.self.inside.store.leaves (g.P.Inx.BasePtrInx.number c.args.p.leaf)) c.args.p.at ≡ Some (c.close.result.0, g.P.Inx.BasePtrInx.number c.close.result.1) = ap (slice_get (entries_in c.self.inside.store.leaves (g.P.Inx.BasePtrInx.number c.args.p.leaf))) zeroth ∙ c.close.ensures.entry in
    let left = left-closed g.K.Ord.cmp c.self.inside.store.leaves c.self.invariant c.room.ensures.apart (g.P.Inx.BasePtrInx.number c.args.p.leaf) c.args.p.at (c.close.result.0, g.P.Inx.BasePtrInx.number c.close.result.1) taken c.self.inside.store.room (omega arith) in
    rw (c.close.ensures.leaves, ← c.self.view_is) left.houses

pub take-entry-requires-clause-within : goal.take-entry-requires-clause-within
take-entry-requires-clause-within g c = has-leaf c.self.inside.store.leaves (g.P.Inx.BasePtrInx.number c.args.p.leaf) c.args.p.at (rw (← c.self.view_is) at c.requires)

pub take-entry-requires-clause-more : goal.take-entry-requires-clause-more
take-entry-requires-clause-more g c =
    let h = has-leaf c.self.inside.store.leaves (g.P.Inx.BasePtrInx.number c.args.p.leaf) c.args.p.at (rw (← c.self.view_is) at c.requires) in omega arith

pub invariant_of-self-then-size-gt-LEAST : goal.invariant_of-self-then-size-gt-LEAST
invariant_of-self-then-size-gt-LEAST g c =
    let size = rest-size g.K.Ord.cmp c.self.inside.store.leaves c.self.invariant c.room.ensures.apart (g.P.Inx.BasePtrInx.number c.args.p.leaf) c.args.p.at (c.take-entry.result.0, g.P.Inx.BasePtrInx.number c.take-entry.result.1) c.take-entry.ensures.entry c.self.inside.store.room in
    let left = left-shrunk g.K.Ord.cmp c.self.inside.store.leaves c.self.invariant c.room.ensures.apart (g.P.Inx.BasePtrInx.number c.args.p.leaf) c.args.p.at (c.take-entry.result.0, g.P.Inx.BasePtrInx.number c.take-entry.result.1) c.take-entry.ensures.entry c.self.inside.store.room (omega arith) in
    rw c.take-entry.ensures.rest left.order

pub returns-then-size-gt-LEAST-clause-entry : goal.returns-then-size-gt-LEAST-clause-entry
returns-then-size-gt-LEAST-clause-entry g c = rw (← c.self.view_is) (entry_at-entries c.self.inside.store.leaves (g.P.Inx.BasePtrInx.number c.args.p.leaf) c.args.p.at ∙ c.take-entry.ensures.entry)

pub returns-then-size-gt-LEAST-clause-entries : goal.returns-then-size-gt-LEAST-clause-entries
returns-then-size-gt-LEAST-clause-entries g c =
    let size = rest-size g.K.Ord.cmp c.self.inside.store.leaves c.self.invariant c.room.ensures.apart (g.P.Inx.BasePtrInx.number c.args.p.leaf) c.args.p.at (c.take-entry.result.0, g.P.Inx.BasePtrInx.number c.take-entry.result.1) c.take-entry.ensures.entry c.self.inside.store.room in
    let left = left-shrunk g.K.Ord.cmp c.self.inside.store.leaves c.self.invariant c.room.ensures.apart (g.P.Inx.BasePtrInx.number c.args.p.leaf) c.args.p.at (c.take-entry.result.0, g.P.Inx.BasePtrInx.number c.take-entry.result.1) c.take-entry.ensures.entry c.self.inside.store.room (omega arith) in
    rw (c.take-entry.ensures.rest, ← c.self.view_is) left.entries

pub returns-then-size-gt-LEAST-clause-houses : goal.returns-then-size-gt-LEAST-clause-houses
returns-then-size-gt-LEAST-clause-houses g c =
    let size = rest-size g.K.Ord.cmp c.self.inside.store.leaves c.self.invariant c.room.ensures.apart (g.P.Inx.BasePtrInx.number c.args.p.leaf) c.args.p.at (c.take-entry.result.0, g.P.Inx.BasePtrInx.number c.take-entry.result.1) c.take-entry.ensures.entry c.self.inside.store.room in
    let left = left-shrunk g.K.Ord.cmp c.self.inside.store.leaves c.self.invariant c.room.ensures.apart (g.P.Inx.BasePtrInx.number c.args.p.leaf) c.args.p.at (c.take-entry.result.0, g.P.Inx.BasePtrInx.number c.take-entry.result.1) c.take-entry.ensures.entry c.self.inside.store.room (omega arith) in
    rw (c.take-entry.ensures.rest, ← c.self.view_is) left.houses

pub after-requires : goal.after-requires
after-requires g c =
    let h = has-leaf c.self.inside.store.leaves (g.P.Inx.BasePtrInx.number c.args.p.leaf) c.args.p.at (rw (← c.self.view_is) at c.requires) in
    let size = rest-size g.K.Ord.cmp c.self.inside.store.leaves c.self.invariant c.room.ensures.apart (g.P.Inx.BasePtrInx.number c.args.p.leaf) c.args.p.at (c.take-entry.result.0, g.P.Inx.BasePtrInx.number c.take-entry.result.1) c.take-entry.ensures.entry c.self.inside.store.room in
    let own = short-own g.K.Ord.cmp c.self.inside.store.leaves c.self.invariant c.room.ensures.apart (g.P.Inx.BasePtrInx.number c.args.p.leaf) c.args.p.at (c.take-entry.result.0, g.P.Inx.BasePtrInx.number c.take-entry.result.1) c.take-entry.ensures.entry c.self.inside.store.room in
    rw (c.take-entry.ensures.rest, own) (omega arith)

pub invariant_of-self-in_default : goal.invariant_of-self-in_default
invariant_of-self-in_default g c =
    let none = sym (rw c.take-entry.ensures.rest at c.in_default.ensures.value) in
    let left = left-last g.K.Ord.cmp c.self.inside.store.leaves c.self.invariant c.room.ensures.apart (g.P.Inx.BasePtrInx.number c.args.p.leaf) c.args.p.at (c.take-entry.result.0, g.P.Inx.BasePtrInx.number c.take-entry.result.1) c.take-entry.ensures.entry c.self.inside.store.room none in
    rw c.take-entry.ensures.rest left.order

pub returns-in_default-clause-entry : goal.returns-in_default-clause-entry
returns-in_default-clause-entry g c = rw (← c.self.view_is) (entry_at-entries c.self.inside.store.leaves (g.P.Inx.BasePtrInx.number c.args.p.leaf) c.args.p.at ∙ c.take-entry.ensures.entry)

pub returns-in_default-clause-entries : goal.returns-in_default-clause-entries
returns-in_default-clause-entries g c =
    let none = sym (rw c.take-entry.ensures.rest at c.in_default.ensures.value) in
    let left = left-last g.K.Ord.cmp c.self.inside.store.leaves c.self.invariant c.room.ensures.apart (g.P.Inx.BasePtrInx.number c.args.p.leaf) c.args.p.at (c.take-entry.result.0, g.P.Inx.BasePtrInx.number c.take-entry.result.1) c.take-entry.ensures.entry c.self.inside.store.room none in
    rw (c.take-entry.ensures.rest, ← c.self.view_is) left.entries

pub returns-in_default-clause-houses : goal.returns-in_default-clause-houses
returns-in_default-clause-houses g c =
    let none = sym (rw c.take-entry.ensures.rest at c.in_default.ensures.value) in
    let left = left-last g.K.Ord.cmp c.self.inside.store.leaves c.self.invariant c.room.ensures.apart (g.P.Inx.BasePtrInx.number c.args.p.leaf) c.args.p.at (c.take-entry.result.0, g.P.Inx.BasePtrInx.number c.take-entry.result.1) c.take-entry.ensures.entry c.self.inside.store.room none in
    rw (c.take-entry.ensures.rest, ← c.self.view_is) left.houses

pub refill-count-requires-clause-leaf : goal.refill-count-requires-clause-leaf
refill-count-requires-clause-leaf g c =
    let next = next-of g.K.Ord.cmp c.self.inside.store.leaves c.self.invariant c.room.ensures.apart (g.P.Inx.BasePtrInx.number c.args.p.leaf) c.args.p.at (c.take-entry.result.0, g.P.Inx.BasePtrInx.number c.take-entry.result.1) c.take-entry.ensures.entry c.self.inside.store.room (g.P.Inx.BasePtrInx.number c.in-Some.next) (sym (rw c.take-entry.ensures.rest at c.in-Some.ensures.value)) in
    let size = rest-size g.K.Ord.cmp c.self.inside.store.leaves c.self.invariant c.room.ensures.apart (g.P.Inx.BasePtrInx.number c.args.p.leaf) c.args.p.at (c.take-entry.result.0, g.P.Inx.BasePtrInx.number c.take-entry.result.1) c.take-entry.ensures.entry c.self.inside.store.room in
    let many = next-filled g.K.Ord.cmp c.self.inside.store.leaves c.self.invariant c.room.ensures.apart (g.P.Inx.BasePtrInx.number c.args.p.leaf) c.args.p.at (c.take-entry.result.0, g.P.Inx.BasePtrInx.number c.take-entry.result.1) c.take-entry.ensures.entry c.self.inside.store.room (g.P.Inx.BasePtrInx.number c.in-Some.next) next in
    let own = short-own g.K.Ord.cmp c.self.inside.store.leaves c.self.invariant c.room.ensures.apart (g.P.Inx.BasePtrInx.number c.args.p.leaf) c.args.p.at (c.take-entry.result.0, g.P.Inx.BasePtrInx.number c.take-entry.result.1) c.take-entry.ensures.entry c.self.inside.store.room in
    rw (c.take-entry.ensures.rest, own) (omega arith)

pub refill-count-requires-clause-next : goal.refill-count-requires-clause-next
refill-count-requires-clause-next g c =
    let next = next-of g.K.Ord.cmp c.self.inside.store.leaves c.self.invariant c.room.ensures.apart (g.P.Inx.BasePtrInx.number c.args.p.leaf) c.args.p.at (c.take-entry.result.0, g.P.Inx.BasePtrInx.number c.take-entry.result.1) c.take-entry.ensures.entry c.self.inside.store.room (g.P.Inx.BasePtrInx.number c.in-Some.next) (sym (rw c.take-entry.ensures.rest at c.in-Some.ensures.value)) in
    rw c.take-entry.ensures.rest next.there

pub refill-count-requires-clause-other : goal.refill-count-requires-clause-other
refill-count-requires-clause-other g c =
    let next = next-of g.K.Ord.cmp c.self.inside.store.leaves c.self.invariant c.room.ensures.apart (g.P.Inx.BasePtrInx.number c.args.p.leaf) c.args.p.at (c.take-entry.result.0, g.P.Inx.BasePtrInx.number c.take-entry.result.1) c.take-entry.ensures.entry c.self.inside.store.room (g.P.Inx.BasePtrInx.number c.in-Some.next) (sym (rw c.take-entry.ensures.rest at c.in-Some.ensures.value)) in
    λ same. next.apart_from (sym same)

pub invariant_of-self-2 : goal.invariant_of-self-2
invariant_of-self-2 g c =
    let next = next-of g.K.Ord.cmp c.self.inside.store.leaves c.self.invariant c.room.ensures.apart (g.P.Inx.BasePtrInx.number c.args.p.leaf) c.args.p.at (c.take-entry.result.0, g.P.Inx.BasePtrInx.number c.take-entry.result.1) c.take-entry.ensures.entry c.self.inside.store.room (g.P.Inx.BasePtrInx.number c.in-Some.next) (sym (rw c.take-entry.ensures.rest at c.in-Some.ensures.value)) in
    let size = rest-size g.K.Ord.cmp c.self.inside.store.leaves c.self.invariant c.room.ensures.apart (g.P.Inx.BasePtrInx.number c.args.p.leaf) c.args.p.at (c.take-entry.result.0, g.P.Inx.BasePtrInx.number c.take-entry.result.1) c.take-entry.ensures.entry c.self.inside.store.room in
    let many = next-filled g.K.Ord.cmp c.self.inside.store.leaves c.self.invariant c.room.ensures.apart (g.P.Inx.BasePtrInx.number c.args.p.leaf) c.args.p.at (c.take-entry.result.0, g.P.Inx.BasePtrInx.number c.take-entry.result.1) c.take-entry.ensures.entry c.self.inside.store.room (g.P.Inx.BasePtrInx.number c.in-Some.next) next in
    let done = left-refilled g.K.Ord.cmp c.self.inside.store.leaves c.self.invariant c.room.ensures.apart (g.P.Inx.BasePtrInx.number c.args.p.leaf) c.args.p.at (c.take-entry.result.0, g.P.Inx.BasePtrInx.number c.take-entry.result.1) c.take-entry.ensures.entry c.self.inside.store.room (g.P.Inx.BasePtrInx.number c.in-Some.next) next c.refill-count.new.self c.refill-count.result (omega arith) (rw c.take-entry.ensures.rest at c.refill-count.ensures.joined) (rw c.take-entry.ensures.rest at c.refill-count.ensures.shared) (rw c.take-entry.ensures.rest at c.refill-count.ensures.least) in
    done.1.order

pub returns-clause-entry : goal.returns-clause-entry
returns-clause-entry g c = rw (← c.self.view_is) (entry_at-entries c.self.inside.store.leaves (g.P.Inx.BasePtrInx.number c.args.p.leaf) c.args.p.at ∙ c.take-entry.ensures.entry)

pub returns-clause-entries : goal.returns-clause-entries
returns-clause-entries g c =
    let next = next-of g.K.Ord.cmp c.self.inside.store.leaves c.self.invariant c.room.ensures.apart (g.P.Inx.BasePtrInx.number c.args.p.leaf) c.args.p.at (c.take-entry.result.0, g.P.Inx.BasePtrInx.number c.take-entry.result.1) c.take-entry.ensures.entry c.self.inside.store.room (g.P.Inx.BasePtrInx.number c.in-Some.next) (sym (rw c.take-entry.ensures.rest at c.in-Some.ensures.value)) in
    let size = rest-size g.K.Ord.cmp c.self.inside.store.leaves c.self.invariant c.room.ensures.apart (g.P.Inx.BasePtrInx.number c.args.p.leaf) c.args.p.at (c.take-entry.result.0, g.P.Inx.BasePtrInx.number c.take-entry.result.1) c.take-entry.ensures.entry c.self.inside.store.room in
    let many = next-filled g.K.Ord.cmp c.self.inside.store.leaves c.self.invariant c.room.ensures.apart (g.P.Inx.BasePtrInx.number c.args.p.leaf) c.args.p.at (c.take-entry.result.0, g.P.Inx.BasePtrInx.number c.take-entry.result.1) c.take-entry.ensures.entry c.self.inside.store.room (g.P.Inx.BasePtrInx.number c.in-Some.next) next in
    let done = left-refilled g.K.Ord.cmp c.self.inside.store.leaves c.self.invariant c.room.ensures.apart (g.P.Inx.BasePtrInx.number c.args.p.leaf) c.args.p.at (c.take-entry.result.0, g.P.Inx.BasePtrInx.number c.take-entry.result.1) c.take-entry.ensures.entry c.self.inside.store.room (g.P.Inx.BasePtrInx.number c.in-Some.next) next c.refill-count.new.self c.refill-count.result (omega arith) (rw c.take-entry.ensures.rest at c.refill-count.ensures.joined) (rw c.take-entry.ensures.rest at c.refill-count.ensures.shared) (rw c.take-entry.ensures.rest at c.refill-count.ensures.least) in
    rw (← c.self.view_is) done.1.entries

pub returns-clause-houses : goal.returns-clause-houses
returns-clause-houses g c =
    let next = next-of g.K.Ord.cmp c.self.inside.store.leaves c.self.invariant c.room.ensures.apart (g.P.Inx.BasePtrInx.number c.args.p.leaf) c.args.p.at (c.take-entry.result.0, g.P.Inx.BasePtrInx.number c.take-entry.result.1) c.take-entry.ensures.entry c.self.inside.store.room (g.P.Inx.BasePtrInx.number c.in-Some.next) (sym (rw c.take-entry.ensures.rest at c.in-Some.ensures.value)) in
    let size = rest-size g.K.Ord.cmp c.self.inside.store.leaves c.self.invariant c.room.ensures.apart (g.P.Inx.BasePtrInx.number c.args.p.leaf) c.args.p.at (c.take-entry.result.0, g.P.Inx.BasePtrInx.number c.take-entry.result.1) c.take-entry.ensures.entry c.self.inside.store.room in
    let many = next-filled g.K.Ord.cmp c.self.inside.store.leaves c.self.invariant c.room.ensures.apart (g.P.Inx.BasePtrInx.number c.args.p.leaf) c.args.p.at (c.take-entry.result.0, g.P.Inx.BasePtrInx.number c.take-entry.result.1) c.take-entry.ensures.entry c.self.inside.store.room (g.P.Inx.BasePtrInx.number c.in-Some.next) next in
    let done = left-refilled g.K.Ord.cmp c.self.inside.store.leaves c.self.invariant c.room.ensures.apart (g.P.Inx.BasePtrInx.number c.args.p.leaf) c.args.p.at (c.take-entry.result.0, g.P.Inx.BasePtrInx.number c.take-entry.result.1) c.take-entry.ensures.entry c.self.inside.store.room (g.P.Inx.BasePtrInx.number c.in-Some.next) next c.refill-count.new.self c.refill-count.result (omega arith) (rw c.take-entry.ensures.rest at c.refill-count.ensures.joined) (rw c.take-entry.ensures.rest at c.refill-count.ensures.shared) (rw c.take-entry.ensures.rest at c.refill-count.ensures.least) in
    let houses = subst (λ r. Houses c.self.inside.store (record { leaves = c.refill-count.new.self.leaves; room = r }) (g.P.Inx.BasePtrInx.number c.take-entry.result.1) None (Some ((g.P.Inx.BasePtrInx.number c.args.p.leaf), (15, 15 + c.refill-count.result)))) (sym done.0) done.1.houses in
    rw (← c.self.view_is) houses
