use Rattle.std.proofs.Common.{◌≡◌, ◌+◌, ◌*◌, ◌/◌, max, arith, ap}
use Rattle.leaf_list.specs.Leaves.{greatest_number}
use Rattle.leaf_list.proofs.Growing.{not-refused}
use Rattle.leaf_list.proofs.list.LeafList.shrink.Goals as goal

pub invariant_of-self : goal.invariant_of-self
invariant_of-self g c =
    let enough = rw (← c.self.view_is) at c.requires in
    let is = not-refused c.reallocate.result (λ refused. let less = c.reallocate.ensures.fails refused in omega (arith, less, c.leaves_for.ensures, enough)) c.reallocate.ensures.ok in
    rw is c.self.invariant

pub returns : goal.returns
returns g c =
    let enough = rw (← c.self.view_is) at c.requires in
    let is = not-refused c.reallocate.result (λ refused. let less = c.reallocate.ensures.fails refused in omega (arith, less, c.leaves_for.ensures, enough)) c.reallocate.ensures.ok in
    let room : 16 * max c.leaves_for.result (greatest_number c.self.inside.store.leaves) ≡ max (16 * ((c.args.n + 15) / 16)) (16 * greatest_number c.self.inside.store.leaves) = omega (arith, c.leaves_for.ensures) in
    rw (is, ← c.self.view_is) (ap (λ r. record c.self.inside.store { room = r }) room)
