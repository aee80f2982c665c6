use Rattle.std.proofs.Common.{◌≡◌, ◌+◌, ◌*◌, ◌/◌, max, arith, ap, sym, subst, ◌∙◌}
use Rattle.leaf_list.specs.Leaves.{greatest_number, AreOrdered}
use Rattle.leaf_list.proofs.Growing.{on-ok, on-err, either}
use Rattle.leaf_list.proofs.list.LeafList.reserve.Goals as goal

pub returns-then-leaves-room-clause-ok : goal.returns-then-leaves-room-clause-ok
returns-then-leaves-room-clause-ok g c =
    let room : c.args.self.now.room ≡ c.room.result = ap (λ a. a.room) (sym c.self.view_is) ∙ sym c.room.ensures.value in
    ap (λ r. record c.args.self.now { room = r }) (let same : c.args.self.now.room ≡ max c.args.self.now.room (16 * ((c.args.n + 15) / 16)) = omega (arith, c.leaves_for-leaves.ensures) in same)

pub invariant_of-self : goal.invariant_of-self
invariant_of-self g c =
    let same : c.reallocate.new.self.leaves ≡ c.self.inside.store.leaves =
    either c.reallocate.result (on-ok c.reallocate.result (λ is. ap (λ a. a.leaves) is) c.reallocate.ensures.ok) (on-err c.reallocate.result (λ is. ap (λ a. a.leaves) is) c.reallocate.ensures.err) in
    subst (AreOrdered g.K.Ord.cmp) (sym same) c.self.invariant

pub returns-clause-ok : goal.returns-clause-ok
returns-clause-ok g c =
    let numbers = c.room.ensures.numbers in
    let value = c.room.ensures.value in
    let room : 16 * max c.leaves_for-leaves.result (greatest_number c.self.inside.store.leaves) ≡ max c.self.inside.store.room (16 * ((c.args.n + 15) / 16)) = omega (arith, c.leaves_for-leaves.ensures) in
    rw (← c.self.view_is) (on-ok c.reallocate.result (λ is. is ∙ ap (λ r. record c.self.inside.store { room = r }) room) c.reallocate.ensures.ok)

pub returns-clause-err : goal.returns-clause-err
returns-clause-err g c = rw (← c.self.view_is) c.reallocate.ensures.err

pub returns-clause-fails : goal.returns-clause-fails
returns-clause-fails g c = λ refused. let less = c.reallocate.ensures.fails refused in rw (← c.self.view_is) (omega (arith, less, c.leaves_for-leaves.ensures))
