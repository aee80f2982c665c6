use Rattle.std.proofs.Common.{◌≡◌, ◌*◌, max, None, length, take, arith, ap, refl, ◌∙◌}
use Rattle.triple_ord.specs.Chain.{greatest_index}
use Rattle.leaf_list.specs.Leaves.{greatest_number}
use Rattle.leaf_list.proofs.Rooming.{greatest-within, resized-stored, resized-view}
use Rattle.leaf_list.proofs.store.LeafStore.clone.Goals as goal

pub clone_rows-requires-clause-within : goal.clone_rows-requires-clause-within
clone_rows-requires-clause-within g c =
    let is = c.in_ok-index.ensures.ok in
    let capacity : c.in_ok-index.index.list.capacity ≡ max 0 (greatest_index c.self.inside.index.list.entries) = ap (λ a. a.list.capacity) is in
    let most = greatest-within c.self.inside.index.list.entries c.self.inside.index.list.capacity c.len.ensures.sound.within in
    omega (arith, c.capacity.ensures.value, c.self.invariant.enough, ap length c.as_slice.ensures.value)

pub invariant_of-result : goal.invariant_of-result
invariant_of-result g c =
    let is = c.in_ok-index.ensures.ok in
    let entries : c.in_ok-index.index.list.entries ≡ c.self.inside.index.list.entries = ap (λ a. a.list.entries) is in
    let maximum : c.in_ok-index.index.list.maximum ≡ None = ap (λ a. a.list.maximum) is in
    let capacity : c.in_ok-index.index.list.capacity ≡ max 0 (greatest_index c.self.inside.index.list.entries) = ap (λ a. a.list.capacity) is in
    let rows = c.in_ok-rows.ensures ∙ ap (λ n. take n c.as_slice.result.now) c.capacity.ensures.value ∙ ap (take c.in_ok-index.index.list.capacity) c.as_slice.ensures.value in
    resized-stored g.P.Inx.BasePtrInx.number c.self.inside.index c.self.inside.rows.items c.args.self.now c.self.view_is c.self.invariant _ _ c.len.ensures.sound c.in_ok-index.index entries maximum 0 capacity (omega arith) c.self.inside.rows.items c.in_ok-rows.rows.items (λ i. refl) rows (omega arith) (omega arith)

pub returns : goal.returns
returns g c =
    let is = c.in_ok-index.ensures.ok in
    let entries : c.in_ok-index.index.list.entries ≡ c.self.inside.index.list.entries = ap (λ a. a.list.entries) is in
    let maximum : c.in_ok-index.index.list.maximum ≡ None = ap (λ a. a.list.maximum) is in
    let capacity : c.in_ok-index.index.list.capacity ≡ max 0 (greatest_index c.self.inside.index.list.entries) = ap (λ a. a.list.capacity) is in
    let rows = c.in_ok-rows.ensures ∙ ap (λ n. take n c.as_slice.result.now) c.capacity.ensures.value ∙ ap (take c.in_ok-index.index.list.capacity) c.as_slice.ensures.value in
    resized-view g.P.Inx.BasePtrInx.number c.self.inside.index c.self.inside.rows.items c.args.self.now c.self.view_is c.self.invariant _ _ c.len.ensures.sound c.in_ok-index.index entries maximum 0 capacity (omega arith) c.self.inside.rows.items c.in_ok-rows.rows.items (λ i. refl) rows (omega arith) (omega arith) ∙ ap (λ r. record c.args.self.now { room = r }) (let same : 16 * max 0 (greatest_number c.args.self.now.leaves) ≡ 16 * greatest_number c.args.self.now.leaves = omega arith in same)
